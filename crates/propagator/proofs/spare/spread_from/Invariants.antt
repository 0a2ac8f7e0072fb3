-- That lots are spare has spread over the days passed.
use Rattle.std.proofs.Common.{◌+◌}
use Rattle.propagator.specs.Matching.{Spread}
use Rattle.propagator.proofs.spare.spread_from.Given as goal

abbrev pub invariant-loop-mate : goal.invariant-loop-mate
invariant-loop-mate l = Spread l.fn.window.low (l.fn.window.low + l.mate-index) l.mates l.initial.spare l.initial.pending l.spare l.pending
