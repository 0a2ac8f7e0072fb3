use Rattle.std.proofs.Common.{◌≤◌, ap, arith}
use Rattle.std.proofs.lemmas.Result.{err_from_is_err_and}
use Rattle.store.specs.Windows.{window_at}
use Rattle.propagation.specs.Problems.{sheet_in}
use Rattle.search.proofs.Left.{past_last, raised, raised_none}
use Rattle.search.proofs.Swaps.{skipped}
use Rattle.search.proofs.Unmoved.{firm_others}
use Rattle.search.proofs.first_day.go_on.Goals as goal

pub returns-then-day-windows-clause-raised : goal.returns-then-day-windows-clause-raised
returns-then-day-windows-clause-raised c =
    let s = sheet_in c.args.problem.now in
    past_last s c.args.lot c.requires.there _ (omega (arith, c.if-day-windows.true, ap (λ vs. (window_at vs c.args.lot).high) c.windows.ensures))
    (skipped s c.args.lot _ c.requires.there c.next_day-day.ensures c.requires.failed)

pub propagate-requires : goal.propagate-requires
propagate-requires c = firm_others (sheet_in c.args.problem.now) _ _ _ c.rules_over-queue.result c.begin.ensures.sheet c.requires.firm.each c.rules_over-queue.ensures

pub returns-in_err-propagate-clause-raised : goal.returns-in_err-propagate-clause-raised
returns-in_err-propagate-clause-raised c =
    let s = sheet_in c.args.problem.now in
    let after = skipped s c.args.lot _ c.requires.there c.next_day-day.ensures c.requires.failed in
    let inside : c.next_day-day.result ≤ (window_at s.windows c.args.lot).high = omega (arith, c.if-day-windows.false, ap (λ vs. (window_at vs c.args.lot).high) c.windows.ensures) in
    let e = err_from_is_err_and c.from_residual.result c.from_residual.ensures.1 in
    rw e.1 (raised_none s c.args.lot _ c.requires.there c.next_day-day.ensures.later inside after _ c.begin.ensures.sheet c.in_err-propagate.ensures.propagates)

pub returns-clause-raised : goal.returns-clause-raised
returns-clause-raised c =
    let s = sheet_in c.args.problem.now in
    let after = skipped s c.args.lot _ c.requires.there c.next_day-day.ensures c.requires.failed in
    let inside : c.next_day-day.result ≤ (window_at s.windows c.args.lot).high = omega (arith, c.if-day-windows.false, ap (λ vs. (window_at vs c.args.lot).high) c.windows.ensures) in
    raised s c.args.lot _ c.requires.there c.next_day-day.ensures.later inside after _ c.begin.ensures.sheet _ c.in_ok-propagate.ensures.propagates c.propagate.new.problem.sound
