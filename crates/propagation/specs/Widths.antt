-- How wide windows are together: what propagation and search make less.
use Rattle.std.specs.Prelude.{ℕ, ◌+◌, ◌-◌, List, [], ◌∷◌}
use Rattle.store.specs.declared.window.Window.{Window}

-- the days of all windows, those beyond the first of each
abbrev pub width : List Window → ℕ
width [] = 0
width (w ∷ ws) = (w.high - w.low) + width ws
