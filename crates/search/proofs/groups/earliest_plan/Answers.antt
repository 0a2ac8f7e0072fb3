use Rattle.std.proofs.lemmas.Result.{err_from_is_err_and}
use Rattle.rules.proofs.Points.{settled_plans, no_firm_no_plan_lem}
use Rattle.search.proofs.Left.{same_answer}
use Rattle.search.proofs.groups.earliest_plan.Goals as goal

pub returns-in_err-propagate_all : goal.returns-in_err-propagate_all
returns-in_err-propagate_all c =
    let e = err_from_is_err_and c.from_residual.result c.from_residual.ensures.1 in
    rw e.1 (no_firm_no_plan_lem _ c.in_err-propagate_all.ensures.propagates)

pub returns : goal.returns
returns c = same_answer _ _ _ c.plan_groups.result (settled_plans _ _ c.in_ok-propagate_all.ensures.propagates) c.plan_groups.ensures
