-- The lots passed have their matching.
use Rattle.propagator.specs.Matching.{Mated}
use Rattle.propagator.proofs.mates.note_mates.Given as goal

abbrev pub invariant-loop-lot : goal.invariant-loop-lot
invariant-loop-lot l = Mated l.lot l.days l.mates l.spare
