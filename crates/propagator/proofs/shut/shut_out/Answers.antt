-- A way out ends the reach; else it goes on, and where no day is left the lot is shut out of all of them.
use Rattle.std.proofs.Common.{◌≡◌, true, false, get_or, refl, subst, arith, rules}
use Rattle.std.proofs.lemmas.Bool.{both_ways}
use Rattle.nvalue.proofs.Choices.{choice_length}
use Rattle.propagator.specs.Matching.{Mate}
use Rattle.propagator.proofs.ShutIn.{shut}
use Rattle.propagator.proofs.Reaching.{reaches_free, reaches_own, reaching_spare, reaching_starts, reaching_widens}
use Rattle.propagator.proofs.shut.shut_out.Goals as goal

pub loop-next-init : goal.loop-next-init
loop-next-init c = (
  reaching_starts c.args.matching.season.windows.now c.args.matching.days.now c.requires.matching.best c.args.matching.spare.now c.args.lot c.args.day c.requires.there c.requires.inside c.args.reach.now c.requires.facing,
  c.requires.room,
)

pub bounds-matching-lot : goal.bounds-matching-lot
bounds-matching-lot c = omega (arith, c.requires.there, choice_length c.args.matching.season.windows.now c.args.matching.days.now c.requires.matching.best.choice)

pub returns-then-next-own-clause-reached : goal.returns-then-next-own-clause-reached
returns-then-next-own-clause-reached c =
    λ _.
    reaches_own c.args.matching.season.windows.now c.args.matching.days.now c.requires.matching.best c.args.matching.spare.now c.args.lot c.args.day c.requires.there c.requires.inside
    c.loop-next.reach c.step.new.self c.in-Some.next c.loop-next.invariant.0 c.in-Some.ensures c.if-next-own.true c.requires.other

pub bounds-matching-next : goal.bounds-matching-next
bounds-matching-next c = omega (arith, c.in-Some.ensures.can_reach.1, c.loop-next.invariant.1)

pub returns-in_default-mates-clause-reached : goal.returns-in_default-mates-clause-reached
returns-in_default-mates-clause-reached c =
    λ _.
    let s = c.requires.matching in
    reaches_free c.args.matching.season.windows.now c.args.matching.days.now s.best c.args.matching.spare.now c.args.lot c.args.day c.requires.there c.requires.inside
    c.loop-next.reach c.step.new.self c.in-Some.next c.loop-next.invariant.0 c.in-Some.ensures
    (λ m b e. let h = s.matched m b in c.in_default-mates.not-Some h.0 (subst (λ x. Mate c.args.matching.mates.now x h.0) e h.1))

pub bounds-matching-mate : goal.bounds-matching-mate
bounds-matching-mate c = omega (arith, (c.requires.matching.mate c.in-Some.next c.in-Some-mates.mate c.in-Some-mates.is).0, c.requires.matching.each)

pub loop-next-preserved-then-not-matching-mate : goal.loop-next-preserved-then-not-matching-mate
loop-next-preserved-then-not-matching-mate c =
    let s = c.requires.matching in
    let k = c.in-Some-mates.mate in
    let is = s.mate c.in-Some.next k c.in-Some-mates.is in
    let w = c.widen.ensures in (
      reaching_widens c.args.matching.season.windows.now c.args.matching.days.now s.best c.args.matching.spare.now c.args.lot c.args.day c.requires.there c.requires.inside
          c.loop-next.reach c.step.new.self c.in-Some.next c.loop-next.invariant.0 c.in-Some.ensures k is.0 is.1 s.spared.company c.if-not-matching-mate.true c.widen.new.self w.low w.high w.from w.to
          c.if-next-own.false,
      omega (arith, w.high, c.in-Some.ensures.high, s.ends k is.0, c.loop-next.invariant.1),
    )

pub loop-next-preserved : goal.loop-next-preserved
loop-next-preserved c =
    let s = c.requires.matching in
    let k = c.in-Some-mates.mate in
    let is = s.mate c.in-Some.next k c.in-Some-mates.is in
    let spare : get_or c.args.matching.spare.now k false ≡ true = search rules in (
      reaching_spare c.args.matching.season.windows.now c.args.matching.days.now s.best c.args.matching.spare.now c.args.lot c.args.day c.requires.there c.requires.inside
          c.loop-next.reach c.step.new.self c.in-Some.next c.loop-next.invariant.0 c.in-Some.ensures k is.0 is.1 s.spared.company spare c.if-next-own.false,
      omega (arith, c.in-Some.ensures.high, c.loop-next.invariant.1),
    )

pub returns : goal.returns
returns c =
    let s = c.requires.matching in
    let e = c.in_default.ensures in
    let p = c.loop-next.invariant.0 in
    record {
      reached = λ f. absurd (both_ways true f refl);
      shut = λ _. rw e.0 (record {
        can_reach = p.on;
        from = e.1;
        to = e.2;
        passed = p.passed;
        no_support = shut c.args.matching.season.windows.now c.args.matching.days.now s.best c.args.matching.spare.now s.each s.spared c.args.lot c.requires.there c.requires.bound c.loop-next.reach p.passed e.1 e.2;
      });
      room = λ _. rw e.0 c.loop-next.invariant.1;
    }
