use Rattle.std.proofs.Common.{◌≡◌, ◌+◌, ◌*◌}
use Rattle.propagation.specs.Problems.{lots_in, sheet_in}
use Rattle.propagation.specs.Widths.{width}
use Rattle.propagation.proofs.Measures.{flags}
use Rattle.propagation.proofs.Propagating.{Propagating}
use Rattle.propagation.proofs.propagate.propagate.Given as goal

abbrev pub invariant-loop-number : goal.invariant-loop-number
invariant-loop-number l =
    Propagating (sheet_in l.initial.problem) (sheet_in l.problem) l.queue × (lots_in l.problem ≡ lots_in l.initial.problem)

abbrev pub decreases-loop-number : goal.decreases-loop-number
decreases-loop-number l = width (sheet_in l.problem).windows * 34 + flags l.queue.flags
