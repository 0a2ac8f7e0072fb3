-- Laws of masks whose windows are narrowed.
use Rattle.std.proofs.Common.{◌≡◌, ℕ, ◌<◌, ◌≤◌, List, map, length, get_or, set, sym, ap, ◌∙◌, subst, arith}
use Rattle.std.proofs.lemmas.Bool.Decides.{nat_tests}
use Rattle.std.proofs.lemmas.List.{get_or-map, length-map, map-set}
use Rattle.base_stores.proofs.Bits.{filled_window}
use Rattle.base_stores.specs.Masks.{window_of_mask, filled, kept}
use Rattle.store.proofs.Each.{each_reach}
use Rattle.store.proofs.Narrowing.{trimmed_narrower, trimmed_ordered, trimmed_differs}
use Rattle.store.proofs.Verdicts.{Moving}
use Rattle.store.specs.declared.half_line.HalfLine.{HalfLine}
use Rattle.store.specs.declared.window.Window.{Window}
use Rattle.store.specs.Each.{each}
use Rattle.store.specs.Windows.{window, window_at, trimmed, Within, Narrower, Onward}

-- the later window is stored in the same way over a mask that was filled
kept_filled : (l h : ℕ) (u : Window) → window_of_mask (filled l h) ≡ window l h → kept (filled l h) u ≡ filled u.low u.high
kept_filled l h u e = grind (arith, nat_tests, e)

module _ (masks : List ℕ) (p : ℕ) (days : HalfLine) (m : Moving (map window_of_mask masks) p days) where
  abbrev shown : Window
  shown = window_at (map window_of_mask masks) p

  abbrev left : Window
  left = trimmed days shown

  pub mask_there : p < length masks
  mask_there = omega (arith, m.there, length-map masks window_of_mask)

  mask_at : shown ≡ window_of_mask (get_or masks p 0)
  mask_at = get_or-map window_of_mask masks p 0 (window 0 0) mask_there

  pub left_ordered : left.low ≤ left.high
  left_ordered = trimmed_ordered days shown m.meets

  pub left_within : left.high ≤ 63
  left_within = omega (arith, (trimmed_narrower days shown m.outside).1, ap (λ w. w.high) mask_at)

  fits : window_of_mask (filled left.low left.high) ≡ left
  fits = filled_window left.low left.high left_ordered left_within

  pub mask_shows : map window_of_mask (set masks p (filled left.low left.high)) ≡ set (map window_of_mask masks) p left
  mask_shows = map-set window_of_mask masks p _ ∙ ap (set (map window_of_mask masks) p) fits

  pub mask_reach : Onward (each kept masks) (each kept (set masks p (filled left.low left.high))) (map window_of_mask (set masks p (filled left.low left.high)))
  mask_reach = each_reach window_of_mask kept masks p (filled left.low left.high) 0 (λ u n.
      kept_filled left.low left.high u fits
      ∙ sym (trimmed_differs days (window_of_mask (get_or masks p 0)) u (subst (λ w. Within days w → ⊥) mask_at m.outside)
      (subst (λ w. Narrower u (trimmed days w)) mask_at (subst (Narrower u) fits n)) (get_or masks p 0) (filled u.low u.high)))
