-- One more lot takes its matched.
use Rattle.std.proofs.Common.{refl, arith}
use Rattle.propagator.proofs.Matched.{mated_more}
use Rattle.propagator.proofs.mates.note_mates.Goals as goal

pub loop-lot-preserved : goal.loop-lot-preserved
loop-lot-preserved c = mated_more c.args.days.now c.loop-lot.mates c.loop-lot.spare c.loop-lot.lot (omega arith) (omega (arith, c.requires.ends c.loop-lot.lot (omega arith))) (omega arith) c.loop-lot.invariant _ _ c.note_mate.ensures.noted _ refl c.note_mate.ensures.shared

pub note_mate-requires-clause-known : goal.note_mate-requires-clause-known
note_mate-requires-clause-known c = λ other h. omega (arith, (c.loop-lot.invariant.mate _ other h).0)
