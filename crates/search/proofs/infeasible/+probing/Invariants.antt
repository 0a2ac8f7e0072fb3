use Rattle.std.proofs.Common.{◌+◌, ◌*◌, ◌≤◌}
use Rattle.propagation.specs.Problems.{sheet_in}
use Rattle.search.proofs.Trying.{Trying}
use Rattle.search.proofs.infeasible.+probing.Given as goal

abbrev pub decreases-probe : goal.decreases-probe
decreases-probe l = 3 * l.budget.now.left + 2

abbrev pub decreases-probe_days : goal.decreases-probe_days
decreases-probe_days l = 3 * l.budget.now.left + 1

-- a call of it takes a try first
abbrev pub decreases-probe_first : goal.decreases-probe_first
decreases-probe_first l = 3 * l.budget.now.left

abbrev pub invariant-probe_days-loop-problem : goal.invariant-probe_days-loop-problem
invariant-probe_days-loop-problem l = Trying (sheet_in l.initial.problem) l.lot (sheet_in l.problem) × (l.budget.left ≤ l.initial.budget.left)

abbrev pub decreases-probe_days-loop-problem : goal.decreases-probe_days-loop-problem
decreases-probe_days-loop-problem l = l.budget.left
