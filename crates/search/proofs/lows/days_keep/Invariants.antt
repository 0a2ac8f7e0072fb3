use Rattle.std.proofs.Common.{take}
use Rattle.std.specs.List.{AllByRecursion}
use Rattle.rules.specs.Plans.{Keeps}
use Rattle.propagation.specs.Problems.{sheet_in}
use Rattle.search.proofs.lows.days_keep.Given as goal

abbrev pub invariant-loop-row : goal.invariant-loop-row
invariant-loop-row l = AllByRecursion (Keeps l.days) (take l.row-index (sheet_in l.problem).rules)
