use Rattle.std.proofs.Common.{◌≡◌, ◌≤◌, take}
use Rattle.rules.specs.Parts.{within}
use Rattle.propagation.proofs.problem.making.copy_within.Given as goal

abbrev pub invariant-loop-row : goal.invariant-loop-row
invariant-loop-row l = (l.many ≤ l.row-index) × (take l.many l.room ≡ within l.start l.end (take l.row-index l.rules))
