use Rattle.std.proofs.Common.{◌≡◌, min, ◌/◌, length, Ok, Err, refl, rules}
use Rattle.std.proofs.lemmas.List.{places}
use Rattle.store.specs.Pairs.{paired}
use Rattle.bench_calls.specs.Planned.{not_opened}
use Rattle.bench_calls.proofs.Sheets.{opens_all, plan_refused, plan_made}
use Rattle.bench_calls.proofs.planning.bench_plan.Goals as goal

pub returns-in-Err-clause-planned : goal.returns-in-Err-clause-planned
returns-in-Err-clause-planned c =
    let many : length c.read_rules.new.rows ≡ min (length c.args.rules.now / 4) 33 = search (rules, places) in
    rw c.number.ensures
    (not_opened c.in-Err.fault c.empty-book.result c.closed.new.book (opens_all (paired c.args.words.now) c.args.rules.now c.read_rules.ensures.0 c.read_rules.new.rows c.empty-book.result (Err c.in-Err.fault) c.closed.new.book many c.read_rules.ensures.1 c.read_rules.ensures.2 (rw c.new-house.ensures.holds at c.in-Err.ensures)) refl refl)

pub returns-in-Ok-planned-clause-planned : goal.returns-in-Ok-planned-clause-planned
returns-in-Ok-planned-clause-planned c =
    let many : length c.read_rules.new.rows ≡ min (length c.args.rules.now / 4) 33 = search (rules, places) in
    let opens = opens_all (paired c.args.words.now) c.args.rules.now c.read_rules.ensures.0 c.read_rules.new.rows c.empty-book.result (Ok c.in-Ok.slip) c.closed.new.book many c.read_rules.ensures.1 c.read_rules.ensures.2 (rw c.new-house.ensures.holds at c.in-Ok.ensures) in
    plan_made _ _ _ c.empty-book.result c.closed.new.book c.in-Ok.slip c.args.answer.now c.plan-planned.new.answer opens c.in-Ok-planned.field-0 (rw c.new-house.ensures.holds at c.in-Ok-planned.ensures.planned)

pub returns-in-Err-planned-clause-planned : goal.returns-in-Err-planned-clause-planned
returns-in-Err-planned-clause-planned c =
    let many : length c.read_rules.new.rows ≡ min (length c.args.rules.now / 4) 33 = search (rules, places) in
    let opens = opens_all (paired c.args.words.now) c.args.rules.now c.read_rules.ensures.0 c.read_rules.new.rows c.empty-book.result (Ok c.in-Ok.slip) c.closed.new.book many c.read_rules.ensures.1 c.read_rules.ensures.2 (rw c.new-house.ensures.holds at c.in-Ok.ensures) in
    rw c.number-in-Err-planned.ensures
    (plan_refused _ _ _ c.empty-book.result c.closed.new.book c.in-Ok.slip c.args.answer.now c.plan-planned.new.answer opens c.in-Err-planned.fault (rw c.new-house.ensures.holds at c.in-Err-planned.ensures.planned))
