-- Working words that were put away.
use Rattle.std.proofs.Common.{◌≡◌, ℕ, ◌<◌, ◌≤◌, List, ◌++◌, length, get_or, drop, ◌∙◌, arith}
use Rattle.std.proofs.lemmas.List.{drop_at, get_or_append_left}
use Rattle.guard.specs.Cleared.{Cleared}

-- the first 4,096 of the lent words are zero, and the rest follow as they were
pub words_cleared : (was head : List ℕ) → 4096 ≤ length was → length head ≡ 4096 → ((k : ℕ) → k < length head → get_or head k 0 ≡ 0) → Cleared was (head ++ drop 4096 was)
words_cleared was head enough long zero = record {
  short = λ h. absurd (omega arith);
  zero = λ h k b. get_or_append_left head (drop 4096 was) 0 k (omega arith) ∙ zero k (omega arith);
  rest = drop_at head (drop 4096 was) 4096 long;
}
