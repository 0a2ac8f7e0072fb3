-- Laws of a store that keeps an item for each lot, which shows as a window.
use Rattle.std.proofs.Common.{◌≡◌, ℕ, zero, suc, List, [], ◌∷◌, map, get_or, set, inl, inr, refl, ap, ap₂}
use Rattle.std.proofs.lemmas.Bool.Decides.{eqb_tells}
use Rattle.store.specs.declared.window.Window.{Window}
use Rattle.store.specs.Windows.{Narrower, Narrowed}
use Rattle.store.specs.Each.{each, where_same, where_window}

module _ {A : Type 0} (shown : A → Window) (f : A → Window → A) where
  -- windows that are as they were change nothing
  pub each_same : ((a : A) → f a (shown a) ≡ a) → (items : List A) → each f items (map shown items) ≡ items
  each_same same [] = refl
  each_same same (a ∷ rest) = ap₂ (λ b bs. b ∷ bs) (same a) (each_same same rest)

  -- what comes later is the same from the one item as from that which it was
  pub each_reach : (items : List A) (p : ℕ) (b d : A) → ((u : Window) → Narrower u (shown b) → f b u ≡ f (get_or items p d) u)
      → (ws : List Window) → Narrowed ws (map shown (set items p b)) → each f (set items p b) ws ≡ each f items ws
  each_reach [] p b d e ws n = refl
  each_reach (a ∷ rest) zero b d e [] n = absurd n
  each_reach (a ∷ rest) zero b d e (w ∷ ws) n = ap (λ c. c ∷ each f rest ws) (e w n.0)
  each_reach (a ∷ rest) (suc p) b d e [] n = absurd n
  each_reach (a ∷ rest) (suc p) b d e (w ∷ ws) n = ap (λ bs. f a w ∷ bs) (each_reach rest p b d e ws n.1)

-- windows of a layer inside those that it shows stand for windows inside those below
pub each_narrowed : (shown : Window → Window) (f : Window → Window → Window) → ((w u : Window) → Narrower u (shown w) → Narrower (f w u) w)
    → (items ws : List Window) → Narrowed ws (map shown items) → Narrowed (each f items ws) items
each_narrowed shown f law [] ws n = tt
each_narrowed shown f law (a ∷ rest) [] n = absurd n
each_narrowed shown f law (a ∷ rest) (w ∷ ws) n = (law a w n.0, each_narrowed shown f law rest ws n.1)

pub where_same_same : {A : Type 0} (n : ℕ) (a b : A) → where_same n n a b ≡ a
where_same_same n a b = elim (eqb_tells n n) [ inl t ↦ rw t.0 refl | inr t ↦ absurd (t.1 refl) ]

pub where_window_same : {A : Type 0} (w : Window) (a b : A) → where_window w w a b ≡ a
where_window_same w a b = elim (eqb_tells w.low w.low) [ inl t ↦ rw t.0 (where_same_same w.high a b) | inr t ↦ absurd (t.1 refl) ]
