-- The mirror image of days: the last day of all, 9,999, becomes the first. What holds from the left then holds from
-- the right.
use Rattle.std.specs.Prelude.{ℕ, ◌-◌}
use Rattle.store.specs.declared.window.Window.{Window}
use Rattle.store.specs.Windows.{window}

abbrev pub flip : ℕ → ℕ
flip d = 9999 - d

abbrev pub mirrored : Window → Window
mirrored w = window (flip w.high) (flip w.low)
