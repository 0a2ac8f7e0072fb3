-- Laws of choices where one window is replaced by another.
use Rattle.std.proofs.Common.{ℕ, zero, suc, ◌<◌, List, [], ◌∷◌, length, get_or, set, ◌∙◌, subst, arith}
use Rattle.std.proofs.lemmas.List.{get_or-set_same, length-set, set-get_or, set-set}
use Rattle.store.specs.declared.window.Window.{Window}
use Rattle.store.specs.Windows.{window, window_at}
use Rattle.nvalue.specs.Choices.{Choice, In}
use Rattle.nvalue.proofs.Choices.{choice_get_or}

-- a choice whose day lies in the new window is one for it
pub choice_put : (ws : List Window) (ds : List ℕ) (i : ℕ) (w : Window) → Choice ws ds → (i < length ws → In w (get_or ds i 0)) → Choice (set ws i w) ds
choice_put [] ds i w c h = c
choice_put (v ∷ ws) [] i w c h = absurd c
choice_put (v ∷ ws) (d ∷ ds) zero w (b, c) h = (h (omega arith), c)
choice_put (v ∷ ws) (d ∷ ds) (suc i) w (b, c) h = (b, choice_put ws ds i w c (λ l. h (omega arith)))

-- and back, where it lies in the window that was there
pub choice_back : (ws : List Window) (ds : List ℕ) (i : ℕ) (w : Window) → Choice (set ws i w) ds → In (window_at ws i) (get_or ds i 0) → Choice ws ds
choice_back ws ds i w c h =
    subst (λ vs. Choice vs ds) (set-set ws i w (window_at ws i) ∙ set-get_or ws i (window 0 0)) (choice_put (set ws i w) ds i (window_at ws i) c (λ l. h))

-- the day of the lot lies in the new window
pub choice_at : (ws : List Window) (ds : List ℕ) (i : ℕ) (w : Window) → i < length ws → Choice (set ws i w) ds → In w (get_or ds i 0)
choice_at ws ds i w h c =
    subst (λ v. In v (get_or ds i 0)) (get_or-set_same ws i w (window 0 0) h) (choice_get_or (set ws i w) ds c i (omega (arith, length-set ws i w)))
