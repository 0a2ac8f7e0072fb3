-- Lists of one value.
use Rattle.std.proofs.Common.{◌≡◌, ℕ, get_or, replicate, inl, inr, arith}
use Rattle.std.proofs.lemmas.List.{get_or-replicate, get_or_past, length-replicate}
use Rattle.std.proofs.lemmas.Bool.{cases_lt}

-- in a list of one value stands no other, and none past its end either
pub all_alike : {X : Type 0} (n k : ℕ) (x : X) → get_or (replicate n x) k x ≡ x
all_alike n k x =
    elim (cases_lt k n) [
      | inl l ↦ get_or-replicate n k x x l
      | inr l ↦ get_or_past (replicate n x) k x (omega (arith, length-replicate n x))
    ]
