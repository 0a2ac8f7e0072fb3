use Rattle.std.proofs.Common.{ℕ, ◌<◌}
use Rattle.rules.specs.Sheets.{rule_at}
use Rattle.sheet.specs.Books.{Tighter}
use Rattle.sheet.proofs.book.writing.are_tighter.Given as goal

abbrev pub invariant-loop-number : goal.invariant-loop-number
invariant-loop-number l = (k : ℕ) → k < l.number → Tighter (rule_at l.rows k) (rule_at l.rules k)
