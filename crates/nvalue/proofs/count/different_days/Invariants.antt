-- What is counted so far and what is still to count make up the whole.
use Rattle.std.proofs.Common.{◌≡◌, ◌+◌, ◌≤◌, length}
use Rattle.nvalue.specs.Nvalue.{nvalue}
use Rattle.nvalue.proofs.count.different_days.Given as goal

abbrev pub invariant-loop-day : goal.invariant-loop-day
invariant-loop-day l = (l.count + nvalue l.rest ≡ nvalue l.fn.days) × (l.count + length l.rest ≤ length l.fn.days)

abbrev pub decreases-loop-day : goal.decreases-loop-day
decreases-loop-day l = length l.rest
