use Rattle.std.proofs.Common.{◌+◌, ◌*◌}
use Rattle.propagation.specs.Problems.{sheet_in}
use Rattle.search.specs.Search.{fixed}
use Rattle.propagation.specs.Widths.{width}
use Rattle.search.proofs.Trying.{Trying}
use Rattle.search.proofs.branch.+solving.Given as goal

abbrev pub decreases-solve : goal.decreases-solve
decreases-solve l = 4 * width (sheet_in l.problem.now).windows + 3

abbrev pub decreases-solve_firm : goal.decreases-solve_firm
decreases-solve_firm l = 4 * width (sheet_in l.problem.now).windows + 2

abbrev pub decreases-try_days : goal.decreases-try_days
decreases-try_days l = 4 * width (sheet_in l.problem.now).windows + 1

-- a call of it fixes the lot first
abbrev pub decreases-try_first : goal.decreases-try_first
decreases-try_first l = 4 * width (fixed l.lot (sheet_in l.problem.now)).windows + 4

abbrev pub invariant-try_days-loop-problem : goal.invariant-try_days-loop-problem
invariant-try_days-loop-problem l = Trying (sheet_in l.initial.problem) l.lot (sheet_in l.problem)

abbrev pub decreases-try_days-loop-problem : goal.decreases-try_days-loop-problem
decreases-try_days-loop-problem l = width (sheet_in l.problem).windows
