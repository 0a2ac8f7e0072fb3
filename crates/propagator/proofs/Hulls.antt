-- The windows of the days that best choices give to the lots are the hull of these choices.
use Rattle.std.proofs.Common.{◌≡◌, ℕ, ◌+◌, ◌<◌, List, length, set, sym, ◌∙◌, subst, arith, below_more}
use Rattle.std.proofs.lemmas.List.{get_or-set_other, get_or-set_same}
use Rattle.store.specs.declared.window.Window.{Window}
use Rattle.store.specs.Windows.{window, window_at}
use Rattle.std.specs.List.{AllByRecursion}
use Rattle.std.proofs.ByRecursion.{All-from_get_or, All-get_or}
use Rattle.store.specs.Sound.{Sound}
use Rattle.nvalue.proofs.Choices.{choice_from_get_or, choice_get_or, choice_length}
use Rattle.extremes.specs.Shown.{HasMost}
use Rattle.propagator.specs.Supports.{BoundSupports}
use Rattle.propagator.specs.Tight.{Hull}

pub hull_from : (ws is : List Window) → length is ≡ length ws → ((i : ℕ) → i < length ws → BoundSupports ws i (window_at is i)) → Hull ws (HasMost ws) is
hull_from ws is e used = record {
  each = e;
  low = λ i b. let r = (used i b).low in (r.0, r.1.choice, r.1.most, r.2);
  high = λ i b. let r = (used i b).high in (r.0, r.1.choice, r.1.most, r.2);
  kept = λ ds c most. choice_from_get_or is ds (choice_length ws ds c ∙ sym e) (λ i h. (used i (omega (arith, e))).kept ds (record { choice = c; most = most }));
}

-- one more lot has its window
pub supports_more : (ws is : List Window) (lot : ℕ) (used : Window) → lot < length is → ((k : ℕ) → k < lot → BoundSupports ws k (window_at is k)) → BoundSupports ws lot used
    → (k : ℕ) → k < lot + 1 → BoundSupports ws k (window_at (set is lot used) k)
supports_more ws is lot used l inv here =
    below_more (λ k. BoundSupports ws k (window_at (set is lot used) k)) lot
    (λ k b. subst (BoundSupports ws k) (sym (get_or-set_other is lot k used (window 0 0) (omega arith))) (inv k b))
    (subst (BoundSupports ws lot) (sym (get_or-set_same is lot used (window 0 0) l)) here)

-- the hull of choices is sound where the windows are: each end is a day of a choice, which lies in both
pub hull_sound : (ws is : List Window) (P : List ℕ → Type 0) → Hull ws P is → AllByRecursion Sound ws → AllByRecursion Sound is
hull_sound ws is P h sound =
    All-from_get_or Sound is (window 0 0) (λ i b.
    let l : i < length ws = omega (arith, h.each) in
    let lo = h.low i l in
    let hi = h.high i l in
    let inside = choice_get_or is lo.0 (h.kept lo.0 lo.1 lo.2) i b in
    let outside = choice_get_or ws hi.0 hi.1 i l in
    let s = All-get_or Sound ws i (window 0 0) l sound in
    (omega (arith, inside, lo.3), omega (arith, outside, hi.3, s)))
