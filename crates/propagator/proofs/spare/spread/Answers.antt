-- Each turn looks at one spare lot; at the end none is pending.
use Rattle.std.proofs.Common.{◌≡◌, ℕ, ◌<◌, ◌≤◌, false, length, get_or, set, ap, arith, rules}
use Rattle.std.proofs.lemmas.List.{length-set}
use Rattle.std.proofs.lemmas.Bool.{both_ways}
use Rattle.nvalue.proofs.Choices.{choice_length}
use Rattle.propagator.proofs.Matched.{set_there}
use Rattle.propagator.proofs.Sparing.{sparing_ends, sparing_more, sparing_starts}
use Rattle.propagator.proofs.Spreading.{work, work_less, work_taken}
use Rattle.propagator.proofs.spare.spread.Goals as goal

pub loop-lot-init : goal.loop-lot-init
loop-lot-init c = rw c.copy_from_slice.ensures.after (sparing_starts c.args.season.windows.now c.args.days.now c.requires.best c.args.mates.now c.args.spare.now c.requires.mated)

pub spread_from-requires-clause-known : goal.spread_from-requires-clause-known
spread_from-requires-clause-known c = λ day k h. omega (arith, (c.requires.mated.mate day k h).0, choice_length c.args.season.windows.now c.args.days.now c.requires.best.choice)

pub loop-lot-smaller : goal.loop-lot-smaller
loop-lot-smaller c =
    let was = c.loop-lot.pending in
    let lot = c.in-Some.lot in
    let e = c.spread_from.ensures in
    let many : length was ≡ length c.loop-lot.spare = omega (arith, ap length c.copy_from_slice.ensures.after) in
    let rest : length (set was lot false) ≡ length c.loop-lot.spare = omega (arith, many, length-set was lot false) in
    let less : work c.spread_from.new.spare c.spread_from.new.pending ≤ work c.loop-lot.spare (set was lot false) =
    work_less c.loop-lot.spare (set was lot false) c.spread_from.new.spare c.spread_from.new.pending rest (omega arith) (omega (arith, many, length-set was lot false)) e.kept e.news in
    let falls : work c.spread_from.new.spare c.spread_from.new.pending < work c.loop-lot.spare was =
    omega (arith, less, work_taken c.loop-lot.spare was lot many c.in-Some.ensures.0 c.in-Some.ensures.1) in
    falls

pub loop-lot-preserved : goal.loop-lot-preserved
loop-lot-preserved c =
    let ws = c.args.season.windows.now in
    let many = choice_length ws c.args.days.now c.requires.best.choice in
    let s = c.requires.mated in
    sparing_more ws c.args.days.now c.requires.best c.args.mates.now (λ day k h. let is = s.mate day k h in (omega (arith, is.0), is.1)) (λ k b. s.matched k (omega arith)) c.loop-lot.spare c.loop-lot.pending
    c.loop-lot.invariant c.in-Some.lot c.in-Some.ensures.1 c.spread_from.new.spare c.spread_from.new.pending c.spread_from.ensures

pub returns : goal.returns
returns c =
    let ws = c.args.season.windows.now in
    let many = choice_length ws c.args.days.now c.requires.best.choice in
    let s = c.requires.mated in
    let none : (k : ℕ) → k < length c.loop-lot.pending → get_or c.loop-lot.pending k false ≡ false = search rules in
    sparing_ends ws c.args.days.now c.requires.best c.args.mates.now (λ day k h. let is = s.mate day k h in (omega (arith, is.0), is.1)) c.loop-lot.spare c.loop-lot.pending c.loop-lot.invariant
    (λ k p. both_ways _ (none k (set_there c.loop-lot.pending k p)) p)
