use Rattle.std.proofs.Common.{◌≤◌, length, refl, subst, sym, arith}
use Rattle.std.specs.List.{AllByRecursion}
use Rattle.std.proofs.lemmas.Result.{err_from_is_err_and}
use Rattle.std.proofs.lemmas.List.{length-take-le}
use Rattle.rules.specs.Parts.{Border}
use Rattle.rules.specs.Sheets.{Fits}
use Rattle.rules.proofs.Parts.{no_plan_part}
use Rattle.propagation.specs.declared.problem.Problem.{Problem}
use Rattle.propagation.specs.Problems.{sheet_in}
use Rattle.search.proofs.Joined.{Fitted, border_end, earliest_all, earliest_end, earliest_more}
use Rattle.search.proofs.groups.plan_groups.Goals as goal

-- the rules of a problem fit its lots
fitted : (p : Problem) → Fitted (sheet_in p) (length (sheet_in p).windows)
fitted p = record {
  lots = refl;
  fit = subst (λ n. AllByRecursion (Fits n) (sheet_in p).rules) (sym (length-take-le p.lots p.windows (omega (arith, p.few, p.room)))) p.fit;
}

pub loop-end-init : goal.loop-end-init
loop-end-init c =
    let p = c.args.problem.now in
    rw c.windows-end.ensures (omega arith, border_end _ _ (fitted p), earliest_end _ _ (fitted p) _ c.requires.each)

pub returns-in_err-plan_part : goal.returns-in_err-plan_part
returns-in_err-plan_part c =
    let e = err_from_is_err_and c.from_residual.result c.from_residual.ensures.1 in
    rw e.1 (no_plan_part _ c.group_start-start.result c.loop-end.end (omega (arith, c.group_start-start.ensures.before)) c.loop-end.invariant.0 c.in_err-plan_part.ensures.found)

pub loop-end-preserved : goal.loop-end-preserved
loop-end-preserved c =
    let start = c.group_start-start.result in
    let l : start ≤ c.loop-end.end = omega (arith, c.group_start-start.ensures.before) in (
      omega (arith, c.loop-end.invariant.0),
      subst (Border start) c.rows.ensures c.group_start-start.ensures.border,
      earliest_more _ c.plan_part.new.days c.loop-end.days start c.loop-end.end _ l c.loop-end.invariant.0 (omega arith) c.loop-end.invariant.1 c.plan_part.ensures.rest c.in_ok-plan_part.ensures.found c.loop-end.invariant.2,
    )

pub returns : goal.returns
returns c =
    let p = c.args.problem.now in
    earliest_all _ _ (fitted p) _ c.loop-end.end c.loop-end-test.false c.loop-end.invariant.2
