use Rattle.std.proofs.Common.{subst, arith}
use Rattle.std.proofs.lemmas.Result.{IfErr-weaker, err_from_is_err_and}
use Rattle.std.proofs.lemmas.Bool.Decides.{not_from_Decides}
use Rattle.rules.specs.Plans.{NoPlan}
use Rattle.rules.proofs.Points.{settled_plans, no_firm_no_plan_lem}
use Rattle.propagation.specs.Problems.{sheet_in}
use Rattle.search.proofs.Left.{same_none, single_none}
use Rattle.search.proofs.Trying.{trying_none, trying_more, trying_there}
use Rattle.search.proofs.Unmoved.{firm_others}
use Rattle.search.proofs.infeasible.+probing.Goals as goal

pub probe-returns-in-None-clause-refuted : goal.probe-returns-in-None-clause-refuted
probe-returns-in-None-clause-refuted t c = single_none _ c.in-None.ensures (not_from_Decides _ c.lows_keep.ensures c.if-lows_keep.false)

pub probe_days-loop-problem-init : goal.probe_days-loop-problem-init
probe_days-loop-problem-init t c = (trying_none _ _ c.args.problem.now.sound c.requires.firm c.requires.choice, omega arith)

pub probe_days-probe_first-requires : goal.probe_days-probe_first-requires
probe_days-probe_first-requires t c = (omega (arith, c.decreases, c.loop-problem.invariant.1), (c.loop-problem.invariant.0.firm, trying_there _ _ c.requires.choice _ c.loop-problem.invariant.0))

pub probe_days-go_on-requires-clause-there : goal.probe_days-go_on-requires-clause-there
probe_days-go_on-requires-clause-there t c = trying_there _ _ c.requires.choice _ c.loop-problem.invariant.0

pub probe_days-loop-problem-preserved : goal.probe_days-loop-problem-preserved
probe_days-loop-problem-preserved t c = (trying_more _ _ c.requires.choice _ c.loop-problem.invariant.0 _ c.in_ok-go_on.ensures.raised, omega (arith, c.loop-problem.invariant.1, c.in-Err.ensures.budget))

pub probe_first-propagate-requires : goal.probe_first-propagate-requires
probe_first-propagate-requires t c = firm_others (sheet_in c.args.problem.now) _ _ _ c.rules_over-queue.result c.fix.ensures.sheet c.requires.firm.each c.rules_over-queue.ensures

pub probe_first-returns-in_err-propagate-clause-refuted : goal.probe_first-returns-in_err-propagate-clause-refuted
probe_first-returns-in_err-propagate-clause-refuted t c =
    let e = err_from_is_err_and c.from_residual.result c.from_residual.ensures.1 in
    rw e.1 (subst NoPlan c.fix.ensures.sheet (no_firm_no_plan_lem _ c.in_err-propagate.ensures.propagates))

pub probe_first-returns-clause-refuted : goal.probe_first-returns-clause-refuted
probe_first-returns-clause-refuted t c =
    IfErr-weaker c.probe.result _ _
    (λ _ none. subst NoPlan c.fix.ensures.sheet (same_none _ _ (settled_plans _ _ c.in_ok-propagate.ensures.propagates) none)) c.probe.ensures.refuted
