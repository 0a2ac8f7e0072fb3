-- The days so far are the last days of the lots so far.
use Rattle.std.proofs.Common.{◌≡◌, take}
use Rattle.extremes.specs.Stabbing.{lasts}
use Rattle.propagator.proofs.fewest_hull.last_days.Given as goal

abbrev pub invariant-loop-i : goal.invariant-loop-i
invariant-loop-i l = take l.i l.days ≡ lasts l.windows (take l.i l.lots)
