use Rattle.std.proofs.Common.{ap, subst, arith}
use Rattle.std.specs.List.{AllByRecursion}
use Rattle.std.proofs.lemmas.Result.{err_from_is_err_and}
use Rattle.std.proofs.lemmas.Bool.Decides.{not_from_Decides}
use Rattle.rules.proofs.Lows.{earliest_lows}
use Rattle.rules.proofs.Points.{settled_plans, no_firm_no_plan_lem}
use Rattle.propagation.specs.Problems.{sheet_in}
use Rattle.search.specs.Search.{Raised, Single}
use Rattle.propagation.specs.Widths.{width}
use Rattle.search.proofs.Left.{same_answer, single_none}
use Rattle.search.proofs.Trying.{trying_none, trying_more, trying_found}
use Rattle.search.proofs.Unmoved.{firm_others}
use Rattle.search.proofs.Widths.{width_narrower}
use Rattle.search.proofs.branch.+solving.Goals as goal

pub solve-returns-in_err-propagate : goal.solve-returns-in_err-propagate
solve-returns-in_err-propagate t c =
    let e = err_from_is_err_and c.from_residual.result c.from_residual.ensures.1 in
    rw e.1 (no_firm_no_plan_lem _ c.in_err-propagate.ensures.propagates)

pub solve-solve_firm-requires : goal.solve-solve_firm-requires
solve-solve_firm-requires t c =
    let g = c.in_ok-propagate.ensures.propagates in
    (omega (arith, c.decreases, width_narrower _ _ g.inside.windows), g.firm)

pub solve-returns : goal.solve-returns
solve-returns t c = same_answer _ _ _ c.solve_firm.result (settled_plans _ _ c.in_ok-propagate.ensures.propagates) c.solve_firm.ensures

pub solve_firm-returns-then-lows_keep : goal.solve_firm-returns-then-lows_keep
solve_firm-returns-then-lows_keep t c = earliest_lows _ c.requires.firm.days (c.lows_keep.ensures.0 c.if-lows_keep.true)

pub solve_firm-returns-in-None : goal.solve_firm-returns-in-None
solve_firm-returns-in-None t c = single_none _ (subst (AllByRecursion Single) c.windows.ensures c.in-None.ensures) (not_from_Decides _ c.lows_keep.ensures c.if-lows_keep.false)

pub try_days-loop-problem-init : goal.try_days-loop-problem-init
try_days-loop-problem-init t c = trying_none _ _ c.args.problem.now.sound c.requires.firm c.requires.first.choice

pub try_days-loop-problem-preserved : goal.try_days-loop-problem-preserved
try_days-loop-problem-preserved t c =
    let u = sheet_in c.go_on.new.problem in
    trying_more _ _ c.requires.first.choice _ c.loop-problem.invariant u (subst (λ p. Raised (sheet_in p) u) c.in-Err.ensures.stay c.in_ok-go_on.ensures.raised)

pub try_days-returns : goal.try_days-returns
try_days-returns t c = trying_found _ _ c.requires.first.choice _ c.loop-problem.invariant c.requires.first.before _ c.in_default.ensures.found

pub try_first-solve-requires : goal.try_first-solve-requires
try_first-solve-requires t c = (
  omega (arith, c.decreases, ap (λ s. width s.windows) c.fix.ensures.sheet),
  firm_others (sheet_in c.args.problem.now) _ _ _ c.rules_over-queue.result c.fix.ensures.sheet c.requires.firm.each c.rules_over-queue.ensures,
)
