use Rattle.std.proofs.Common.{arith}
use Rattle.std.proofs.lemmas.Result.{err_from_is_err_and}
use Rattle.store.specs.Pairs.{paired}
use Rattle.rules.specs.Sheets.{sheet}
use Rattle.reply.proofs.Planning.{start_refused, rules_refused, plan_refused, plan_made}
use Rattle.reply.proofs.plan_file.plan_lots.Goals as goal

pub returns-in_err-draft : goal.returns-in_err-draft
returns-in_err-draft c file rules h e =
    let p = err_from_is_err_and c.from_residual.result c.from_residual.ensures.1 in
    let s = sheet (paired c.new-house.result.words.now) rules in
    rw (p.1, p.2)
    (start_refused file s c.args.answer.now (rw c.new-house.ensures.holds h) c.empty-book.result c.start.new.book c.in_err-draft.field-0.0 c.in_err-draft.ensures)

pub returns-in-Err : goal.returns-in-Err
returns-in-Err c file rules h e =
    let s = sheet (paired c.new-house.result.words.now) rules in
    rules_refused file s c.args.answer.now (rw c.new-house.ensures.holds h) c.empty-book.result c.start.new.book c.in_ok-draft.draft c.add_rules.new.slip c.add_rules.new.book c.in_ok-draft.ensures c.in-Err.fault (rw e at c.in-Err.ensures)

pub returns-in_err-planned : goal.returns-in_err-planned
returns-in_err-planned c file rules h e =
    let p = err_from_is_err_and c.from_residual-in_err-planned.result c.from_residual-in_err-planned.ensures.1 in
    let s = sheet (paired c.new-house.result.words.now) rules in
    rw (p.1, p.2)
    (plan_refused file s c.args.answer.now (rw c.new-house.ensures.holds h) c.empty-book.result c.start.new.book c.in_ok-draft.draft c.add_rules.new.slip c.add_rules.new.book c.in_ok-draft.ensures (rw e at c.in_default.ensures)
    4096 (omega arith) c.in_err-planned.field-0.0 c.plan-planned.new.answer (rw (c.close-slip.ensures.0, c.close-slip.ensures.1) at c.in_err-planned.ensures.planned))

pub returns : goal.returns
returns c file rules h e =
    let s = sheet (paired c.new-house.result.words.now) rules in
    rw c.lots.ensures
    (plan_made file s c.args.answer.now (rw c.new-house.ensures.holds h) c.empty-book.result c.start.new.book c.in_ok-draft.draft c.add_rules.new.slip c.add_rules.new.book c.in_ok-draft.ensures (rw e at c.in_default.ensures)
    4096 (omega arith) c.in_ok-planned.field-0 c.plan-planned.new.answer (rw (c.close-slip.ensures.0, c.close-slip.ensures.1) at c.in_ok-planned.ensures.planned))
