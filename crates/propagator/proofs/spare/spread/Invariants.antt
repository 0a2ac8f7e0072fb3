-- Which lots are spare so far.
use Rattle.propagator.proofs.Sparing.{Sparing}
use Rattle.propagator.proofs.Spreading.{work}
use Rattle.propagator.proofs.spare.spread.Given as goal

abbrev pub invariant-loop-lot : goal.invariant-loop-lot
invariant-loop-lot l = Sparing l.season.windows.now l.days l.mates l.spare l.pending

abbrev pub decreases-loop-lot : goal.decreases-loop-lot
decreases-loop-lot l = work l.spare l.pending
