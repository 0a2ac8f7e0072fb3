use Rattle.std.proofs.Common.{rules}
use Rattle.reply.specs.declared.reply.Replied.TheVariants.{Plan, Refusal}
use Rattle.reply.proofs.Determined.{one_text}
use Rattle.reply.proofs.Replies.{Told, list_replied, line_replied}
use Rattle.reply.proofs.reply.reply.Goals as goal

pub returns-in-Ok-clause-replies : goal.returns-in-Ok-clause-replies
returns-in-Ok-clause-replies c =
    let told : Told Plan c.list.result c.map.result = record { written = λ k e. search rules; refused = λ x e. search rules } in
    list_replied c.args.file.now _ c.plan_file.new.answer c.in-Ok.lots (rw c.in-Ok.is at c.plan_file.ensures) c.args.out.now c.list.new.out _ _ told c.list.ensures

pub returns-in-Err-clause-replies : goal.returns-in-Err-clause-replies
returns-in-Err-clause-replies c =
    let told : Told Refusal c.write_refusal.result c.map-in-Err.result = record { written = λ k e. search rules; refused = λ x e. search rules } in
    let refused = rw c.in-Err.is at c.plan_file.ensures in
    line_replied c.args.file.now c.in-Err.fault c.number.result c.place.result refused.0 c.number.ensures c.place.ensures c.args.out.now c.write_refusal.new.out _ _ told c.write_refusal.ensures

pub returns-in-Ok-clause-one : goal.returns-in-Ok-clause-one
returns-in-Ok-clause-one c = one_text c.args.file.now

pub returns-in-Err-clause-one : goal.returns-in-Err-clause-one
returns-in-Err-clause-one c = one_text c.args.file.now
