-- The lot's own day lies before each block that shuts it out.
use Rattle.std.proofs.Common.{inr, arith}
use Rattle.nvalue.proofs.Choices.{choice_get_or, choice_length}
use Rattle.propagator.proofs.Facing.{ahead, facing_at, facing_next}
use Rattle.propagator.proofs.most_hull.last_day.Goals as goal

pub loop-day-init : goal.loop-day-init
loop-day-init c =
    let ws = c.args.matching.season.windows.now in
    let best = c.requires.matching.best in
    let w = c.at-reach.ensures in (
      omega arith,
      (choice_get_or ws c.args.matching.days.now best.choice c.args.lot c.requires.there).1,
      λ ds b. (choice_get_or ws ds b.choice c.args.lot c.requires.there).1,
      facing_at ws c.args.matching.days.now c.args.matching.spare.now c.args.lot _ c.at-reach.result w.low w.high w.from w.to,
      omega (arith, w.high, c.requires.matching.ends c.args.lot c.requires.there),
    )

pub bounds-matching-lot-in-loop-day : goal.bounds-matching-lot-in-loop-day
bounds-matching-lot-in-loop-day c = omega (arith, c.requires.there, choice_length c.args.matching.season.windows.now c.args.matching.days.now c.requires.matching.best.choice)

pub shut_out-requires-clause-inside : goal.shut_out-requires-clause-inside
shut_out-requires-clause-inside c =
    let own = choice_get_or c.args.matching.season.windows.now c.args.matching.days.now c.requires.matching.best.choice c.args.lot c.requires.there in
    let inv = c.loop-day.invariant in
    (omega (arith, own.0, c.loop-day-test.true), omega (arith, inv.0))

pub shut_out-requires-clause-facing : goal.shut_out-requires-clause-facing
shut_out-requires-clause-facing c = c.loop-day.invariant.3

pub shut_out-requires-clause-room : goal.shut_out-requires-clause-room
shut_out-requires-clause-room c = c.loop-day.invariant.4

pub loop-day-preserved : goal.loop-day-preserved
loop-day-preserved c =
    let ws = c.args.matching.season.windows.now in
    let days = c.args.matching.days.now in
    let spare = c.args.matching.spare.now in
    let lot = c.args.lot in
    let inv = c.loop-day.invariant in
    let s = c.shut_out.ensures.shut c.if-not-shut_out.false in
    let w = c.widen.ensures in
    let own = ahead ws days spare lot c.loop-day.day c.shut_out.new.reach s days c.requires.matching.best inv.1 in (
      omega (arith, inv.0, s.can_reach.0),
      omega (arith, own),
      λ ds b. omega (arith, ahead ws days spare lot c.loop-day.day c.shut_out.new.reach s ds b (inv.2 ds b)),
      facing_next ws days spare lot c.loop-day.day _ c.shut_out.new.reach c.widen.new.self s w.low w.high w.from w.to (inr (omega (arith, own))),
      omega (arith, w.high, s.can_reach.0, s.can_reach.1, c.shut_out.ensures.room c.if-not-shut_out.false),
    )
