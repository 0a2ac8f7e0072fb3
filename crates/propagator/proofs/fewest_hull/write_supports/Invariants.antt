-- Each window so far is cut to its first and its last used day.
use Rattle.std.proofs.Common.{ℕ, ◌<◌}
use Rattle.store.specs.Windows.{window_at}
use Rattle.propagator.proofs.Rungs.{SupportEnds}
use Rattle.propagator.proofs.fewest_hull.write_supports.Given as goal

abbrev pub invariant-loop-i : goal.invariant-loop-i
invariant-loop-i l = (k : ℕ) → k < l.i → SupportEnds (window_at l.season.windows.now k) l.points l.image_points (window_at l.hull k)
