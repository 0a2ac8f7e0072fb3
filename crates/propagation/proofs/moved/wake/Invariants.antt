use Rattle.std.proofs.Common.{◌≡◌, ℕ, ◌<◌, false}
use Rattle.rules.specs.Sheets.{rule_at, under}
use Rattle.propagation.specs.Problems.{sheet_in}
use Rattle.propagation.specs.Queues.{waits}
use Rattle.propagation.specs.Changes.{written}
use Rattle.propagation.proofs.moved.wake.Given as goal

abbrev pub invariant-loop-q : goal.invariant-loop-q
invariant-loop-q l =
    (p : ℕ) → (p ≡ l.number → ⊥) → waits l.queue p ≡ false
    → (waits l.initial.queue p ≡ false)
    × (p < l.q → under (rule_at (sheet_in l.problem).rules p) (sheet_in l.problem).windows ≡ under (rule_at (sheet_in l.problem).rules p) (written l.first l.windows (sheet_in l.problem).windows))
