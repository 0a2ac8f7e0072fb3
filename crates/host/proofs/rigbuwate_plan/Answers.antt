use Rattle.std.proofs.Common.{◌∙◌, arith}
use Rattle.std.proofs.lemmas.List.{length-take-le}
use Rattle.host.proofs.Calls.{got_small, calls_planned, calls_refused, calls_agree}
use Rattle.host.proofs.rigbuwate_plan.Goals as goal

pub write_numbers-requires-clause-small : goal.write_numbers-requires-clause-small
write_numbers-requires-clause-small c = got_small c.args.file.now _ c.plan_file.new.answer c.in-Ok.lots (rw c.in-Ok.is at c.plan_file.ensures)

pub returns-in-Ok-clause-calls : goal.returns-in-Ok-clause-calls
returns-in-Ok-clause-calls c =
    let room = length-take-le c.min.result _ (omega arith) ∙ c.min.ensures in
    rw c.write_numbers.ensures (calls_planned c.args.file.now _ c.plan_file.new.answer c.in-Ok.lots (rw c.in-Ok.is at c.plan_file.ensures) c.args.output.now room)

pub returns-in-Ok-clause-agrees : goal.returns-in-Ok-clause-agrees
returns-in-Ok-clause-agrees c = calls_agree _ _ _ _ (returns-in-Ok-clause-calls c)

pub returns-in-Err-clause-calls : goal.returns-in-Err-clause-calls
returns-in-Err-clause-calls c =
    let room = length-take-le c.min.result _ (omega arith) ∙ c.min.ensures in
    let told = rw c.in-Err.is at c.plan_file.ensures in
    rw c.number.ensures (calls_refused c.args.file.now c.args.output.now _ c.in-Err.fault room told.0)

pub returns-in-Err-clause-agrees : goal.returns-in-Err-clause-agrees
returns-in-Err-clause-agrees c = calls_agree _ _ _ _ (returns-in-Err-clause-calls c)
