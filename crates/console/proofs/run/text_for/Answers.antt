use Rattle.std.proofs.Common.{refl, inl, inr, arith}
use Rattle.console.proofs.Told.{always_fits, text_stands}
use Rattle.console.proofs.run.text_for.Goals as goal

pub unreachable-requires : goal.unreachable-requires
unreachable-requires c = always_fits _ _ _ _ (omega (arith, c.told-room)) (rw c.in_default.is at c.reply.ensures.replies)

pub returns-in-Plan-clause-text : goal.returns-in-Plan-clause-text
returns-in-Plan-clause-text c = text_stands _ c.args.room.now _ _ c.in-Plan.bytes (inl refl) (rw c.in-Plan.is at c.in-Ok.ensures.replies)

pub returns-in-Refusal-clause-text : goal.returns-in-Refusal-clause-text
returns-in-Refusal-clause-text c = text_stands _ c.args.room.now _ _ c.in-Refusal.bytes (inr refl) (rw c.in-Refusal.is at c.in-Ok.ensures.replies)
