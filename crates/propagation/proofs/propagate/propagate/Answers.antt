use Rattle.std.proofs.Common.{length, refl, ap, ◌∙◌, arith, rules}
use Rattle.propagation.specs.Problems.{sheet_in}
use Rattle.propagation.proofs.Measures.{measure_falls}
use Rattle.propagation.proofs.Problems.{problem_rules}
use Rattle.propagation.proofs.Propagating.{propagating_ends, propagating_starts, propagating_runs}
use Rattle.propagation.proofs.propagate.propagate.Goals as goal

pub loop-number-init : goal.loop-number-init
loop-number-init c = (propagating_starts (sheet_in c.args.problem.now) c.args.queue c.requires, refl)

pub loop-number-smaller : goal.loop-number-smaller
loop-number-smaller c =
    let now = c.run_propagator.new in
    let was = c.loop-number in
    let e = c.in_ok-run_propagator.ensures in
    let taken = c.in-Some.ensures in
    measure_falls (sheet_in now.problem).windows (sheet_in was.problem).windows now.queue.flags c.pop.new.self.flags was.queue.flags c.in-Some.number e.runs.firm.inside.windows now.problem.sound now.queue.room
    (λ same. ap (λ q. q.flags) (e.runs.still same)) taken.2 (omega (arith, taken.0, ap length c.rows.ensures, problem_rules was.problem, was.problem.few_rules, was.queue.room)) taken.1

pub loop-number-preserved : goal.loop-number-preserved
loop-number-preserved c =
    let now = c.run_propagator.new in
    let e = c.in_ok-run_propagator.ensures in (
      propagating_runs (sheet_in c.args.problem.now) (sheet_in c.loop-number.problem) (sheet_in now.problem) c.in-Some.number c.loop-number.queue c.pop.new.self now.queue c.loop-number.invariant.0 c.in-Some.ensures.2 e.runs,
      e.lots ∙ c.loop-number.invariant.1,
    )

pub returns-clause-propagates : goal.returns-clause-propagates
returns-clause-propagates c = propagating_ends (sheet_in c.args.problem.now) c.loop-number.problem c.loop-number.queue c.loop-number.invariant.0 (search rules)
