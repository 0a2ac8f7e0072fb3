-- The lot's own day lies past each block that shuts it out.
use Rattle.std.proofs.Common.{inl, arith}
use Rattle.std.proofs.ByRecursion.{All-get_or}
use Rattle.store.specs.Sound.{Sound}
use Rattle.store.specs.Windows.{window}
use Rattle.nvalue.proofs.Choices.{choice_get_or, choice_length}
use Rattle.propagator.proofs.Facing.{facing_at, facing_next, past}
use Rattle.propagator.proofs.most_hull.first_day.Goals as goal

pub loop-day-init : goal.loop-day-init
loop-day-init c =
    let ws = c.args.matching.season.windows.now in
    let best = c.requires.matching.best in
    let w = c.at-reach.ensures in (
      omega arith,
      (choice_get_or ws c.args.matching.days.now best.choice c.args.lot c.requires.there).0,
      λ ds b. (choice_get_or ws ds b.choice c.args.lot c.requires.there).0,
      facing_at ws c.args.matching.days.now c.args.matching.spare.now c.args.lot _ c.at-reach.result w.low w.high w.from w.to,
      omega (arith, w.high, c.requires.matching.ends c.args.lot c.requires.there, (All-get_or Sound ws c.args.lot (window 0 0) c.requires.there c.args.matching.season.sound).0),
    )

pub bounds-matching-lot-in-loop-day : goal.bounds-matching-lot-in-loop-day
bounds-matching-lot-in-loop-day c = omega (arith, c.requires.there, choice_length c.args.matching.season.windows.now c.args.matching.days.now c.requires.matching.best.choice)

pub shut_out-requires-clause-inside : goal.shut_out-requires-clause-inside
shut_out-requires-clause-inside c =
    let own = choice_get_or c.args.matching.season.windows.now c.args.matching.days.now c.requires.matching.best.choice c.args.lot c.requires.there in
    let inv = c.loop-day.invariant in
    (omega (arith, inv.0), omega (arith, own.1, c.loop-day-test.true))

pub shut_out-requires-clause-facing : goal.shut_out-requires-clause-facing
shut_out-requires-clause-facing c = c.loop-day.invariant.3

pub shut_out-requires-clause-room : goal.shut_out-requires-clause-room
shut_out-requires-clause-room c = c.loop-day.invariant.4

pub loop-day-preserved : goal.loop-day-preserved
loop-day-preserved c =
    let ws = c.args.matching.season.windows.now in
    let days = c.args.matching.days.now in
    let spare = c.args.matching.spare.now in
    let lot = c.args.lot in
    let inv = c.loop-day.invariant in
    let best = c.requires.matching.best in
    let s = c.shut_out.ensures.shut c.if-not-shut_out.false in
    let w = c.widen.ensures in
    let own = past ws days spare lot c.loop-day.day c.shut_out.new.reach s days best inv.1 in (
      omega (arith, inv.0, s.can_reach.1),
      omega (arith, own),
      λ ds b. omega (arith, past ws days spare lot c.loop-day.day c.shut_out.new.reach s ds b (inv.2 ds b)),
      facing_next ws days spare lot c.loop-day.day _ c.shut_out.new.reach c.widen.new.self s w.low w.high w.from w.to (inl (omega arith)),
      omega (arith, w.high, own, (choice_get_or ws days best.choice lot c.requires.there).1, c.requires.matching.ends lot c.requires.there),
    )

-- the next day is not past the lot's own
pub widen-requires : goal.widen-requires
widen-requires c =
    let ws = c.args.matching.season.windows.now in
    let best = c.requires.matching.best in
    let sound = All-get_or Sound ws c.args.lot (window 0 0) c.requires.there c.args.matching.season.sound in
    let s = c.shut_out.ensures.shut c.if-not-shut_out.false in
    omega (
      arith,
      past ws c.args.matching.days.now c.args.matching.spare.now c.args.lot c.loop-day.day c.shut_out.new.reach s c.args.matching.days.now best c.loop-day.invariant.1,
      (choice_get_or ws c.args.matching.days.now best.choice c.args.lot c.requires.there).1,
      sound.1,
    )
