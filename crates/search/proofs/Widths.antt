-- How wide windows are together: what a change of one does, and that narrower ones are not wider.
use Rattle.std.proofs.Common.{◌≡◌, ℕ, zero, suc, ◌+◌, ◌-◌, ◌<◌, ◌≤◌, List, [], ◌∷◌, length, set, arith}
use Rattle.store.specs.declared.window.Window.{Window}
use Rattle.store.specs.Windows.{window, window_at, Narrowed}
use Rattle.rules.specs.Sheets.{Sheet}
use Rattle.search.specs.Search.{fixed, from_day}
use Rattle.propagation.specs.Widths.{width}

pub width_set : (ws : List Window) (i : ℕ) (w : Window) → i < length ws → width (set ws i w) + ((window_at ws i).high - (window_at ws i).low) ≡ width ws + (w.high - w.low)
width_set [] i w h = absurd (omega arith)
width_set (v ∷ ws) zero w h = omega arith
width_set (v ∷ ws) (suc i) w h = let e = width_set ws i w (omega arith) in omega arith

pub width_narrower : (vs ws : List Window) → Narrowed vs ws → width vs ≤ width ws
width_narrower [] [] e = omega arith
width_narrower [] (w ∷ ws) e = absurd e
width_narrower (v ∷ vs) [] e = absurd e
width_narrower (v ∷ vs) (w ∷ ws) (n, e) = let l = width_narrower vs ws e in omega arith

module _ (s : Sheet) (lot : ℕ) (h : lot < length s.windows) where
  -- fixing a lot widens nothing, and narrows where it has a choice
  pub width_fixed : width (fixed lot s).windows ≤ width s.windows
  width_fixed = let w = window_at s.windows lot in omega (arith, width_set s.windows lot (window w.low w.low) h)

  pub width_fixed_open : (window_at s.windows lot).low < (window_at s.windows lot).high → width (fixed lot s).windows < width s.windows
  width_fixed_open o = let w = window_at s.windows lot in omega (arith, width_set s.windows lot (window w.low w.low) h)

  -- a later first day makes windows less wide
  pub width_from : (day : ℕ) → (window_at s.windows lot).low < day → day ≤ (window_at s.windows lot).high → width (from_day lot day s).windows < width s.windows
  width_from day l m = omega (arith, width_set s.windows lot (window day (window_at s.windows lot).high) h)
