use Rattle.std.proofs.Common.{◌≡◌, ℕ, ◌<◌, false}
use Rattle.nvalue.specs.Stretches.{Over}
use Rattle.rules.specs.Sheets.{rule_at}
use Rattle.propagation.specs.Problems.{sheet_in}
use Rattle.propagation.specs.Queues.{waits}
use Rattle.search.proofs.waking.rules_over.Given as goal

abbrev pub invariant-loop-number : goal.invariant-loop-number
invariant-loop-number l = (k : ℕ) → k < l.number → waits l.queue k ≡ false → Over (rule_at (sheet_in l.problem).rules k).stretch l.lot → ⊥
