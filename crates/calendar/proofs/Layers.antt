-- Laws of any layer, which shows each window of the store below and stands each shown window for one below.
use Rattle.std.proofs.Common.{◌≡◌, ℕ, suc, ◌<◌, cond, ltb, List, map, length, set, Some, None, Ok, Result, refl, sym, ap, ◌∙◌, subst, inl, inr, arith}
use Rattle.std.proofs.lemmas.Bool.Decides.{leb_tells}
use Rattle.std.proofs.lemmas.List.{length-map, get_or-map, map-set}
use Rattle.std.specs.Option.{option_map}
use Rattle.store.proofs.Each.{each_reach, each_narrowed}
use Rattle.store.proofs.Verdicts.{Moving, trims_moves}
use Rattle.store.specs.declared.fault.StoreFault.{StoreFault}
use Rattle.store.specs.declared.half_line.HalfLine.{HalfLine}
use Rattle.store.specs.declared.window.Window.{Window}
use Rattle.store.specs.Each.{each}
use Rattle.store.specs.Windows.{window, window_at, trimmed, Within, Misses, Trims, moves, Narrower, Narrowed, Onward}

module _ (show : Window → Window) (ws : List Window) (p : ℕ) where
  show_at : p < length ws → window_at (map show ws) p ≡ show (window_at ws p)
  show_at b = get_or-map show ws p (window 0 0) (window 0 0) b

  -- an end that is read below and shown is the end that the layer shows
  pub shown_end : (g : ℕ → ℕ) (a b : Window → ℕ) → ((w : Window) → b (show w) ≡ g (a w))
      → option_map g (cond (ltb p (length ws)) (Some (a (window_at ws p))) None) ≡ cond (ltb p (length (map show ws))) (Some (b (window_at (map show ws) p))) None
  shown_end g a b law =
      elim (leb_tells (suc p) (length ws)) [
        | inl t ↦ rw (length-map ws show) (rw t.0 (ap Some (sym (law _) ∙ ap b (sym (show_at t.1)))))
        | inr t ↦ rw (length-map ws show) (rw t.0 refl)
      ]

-- the window below is cut as the shown one is
pub record Cuts (show : Window → Window) (cut : HalfLine) (w : Window) (days : HalfLine) : Type 0 where
  pub outside : Within cut w → ⊥
  pub meets : Misses cut w → ⊥
  pub shows : show (trimmed cut w) ≡ trimmed days (show w)

-- what a layer owes: `stand` tells the window below that a shown one stands for, `down` the days below of a half-line
pub record Layer (show : Window → Window) (stand : Window → Window → Window) (down : HalfLine → HalfLine) : Type 0 where
  pub narrower : (w u : Window) → Narrower u (show w) → Narrower (stand w u) w
  pub cuts : (w : Window) (days : HalfLine) → (Within days (show w) → ⊥) → (Misses days (show w) → ⊥) → Cuts show (down days) w days
  pub later : (w u : Window) (days : HalfLine) → (Within days (show w) → ⊥) → (Misses days (show w) → ⊥) → Narrower u (trimmed days (show w))
      → stand (trimmed (down days) w) u ≡ stand w u

module _ (show : Window → Window) (stand : Window → Window → Window) (down : HalfLine → HalfLine) (layer : Layer show stand down)
    (ws is : List Window) (p : ℕ) (days : HalfLine) (r : Result (Unit {0}) StoreFault) (m : Moving (map show ws) p days) (t : Trims ws p (down days) r is) where
  there : p < length ws
  there = omega (arith, m.there, length-map ws show)

  at : window_at (map show ws) p ≡ show (window_at ws p)
  at = show_at show ws p there

  outside : Within days (show (window_at ws p)) → ⊥
  outside = subst (λ w. Within days w → ⊥) at m.outside

  meets : Misses days (show (window_at ws p)) → ⊥
  meets = subst (λ w. Misses days w → ⊥) at m.meets

  cut : Cuts show (down days) (window_at ws p) days
  cut = layer.cuts (window_at ws p) days outside meets

  below : (r ≡ Ok tt) × (is ≡ set ws p (trimmed (down days) (window_at ws p)))
  below = trims_moves ws is p (down days) r (record { there = there; outside = cut.outside; meets = cut.meets }) t

  pub layer_trims : Trims (map show ws) p days r (map show is)
  layer_trims = moves m.there m.outside m.meets below.0
      (ap (map show) below.1 ∙ map-set show ws p _ ∙ ap (set (map show ws) p) (cut.shows ∙ ap (trimmed days) (sym at)))

  pub layer_reach : (old new : List Window → List ℕ) → Onward old new is → Onward (λ vs. old (each stand ws vs)) (λ vs. new (each stand is vs)) (map show is)
  layer_reach old new o vs n =
      o (each stand is vs) (each_narrowed show stand layer.narrower is vs n)
      ∙ ap old (subst (λ bs. Narrowed vs (map show bs) → each stand bs vs ≡ each stand ws vs) (sym below.1)
      (each_reach show stand ws p (trimmed (down days) (window_at ws p)) (window 0 0)
      (λ u k. layer.later (window_at ws p) u days outside meets (subst (Narrower u) cut.shows k)) vs) n)
