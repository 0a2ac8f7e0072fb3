use Rattle.std.proofs.Common.{◌≤◌, length, drop}
use Rattle.rules.specs.Parts.{Border, part_of}
use Rattle.rules.specs.Plans.{Earliest}
use Rattle.propagation.specs.Problems.{sheet_in}
use Rattle.search.proofs.groups.plan_groups.Given as goal

abbrev pub invariant-loop-end : goal.invariant-loop-end
invariant-loop-end l =
    let s = sheet_in l.problem in
    (l.end ≤ length s.windows) × Border l.end s.rules × Earliest (part_of l.end (length s.windows) s) (drop l.end l.days)

abbrev pub decreases-loop-end : goal.decreases-loop-end
decreases-loop-end l = l.end
