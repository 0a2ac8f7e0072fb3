-- The checks of a call, as a list in their order. A check tells of each refusal when it is given.
use Rattle.std.specs.Prelude.{◌≡◌, List, [], ◌∷◌, Result, MatchResult}

-- the check that refuses, always in the same way, where a condition holds
abbrev pub refuse : {E : Type 0} → E → Type 0 → E → Type 0
refuse why When e = When × (e ≡ why)

-- no check refuses
abbrev pub Passes : {E : Type 0} → List (E → Type 0) → Type 0
Passes [] = Unit {0}
Passes {E} (check ∷ checks) = ((e : E) → check e → ⊥) × Passes checks

-- either this check refuses, or it does not and a later one does
pub data First (Here Silent Later : Type 0) : Type 0 where
  here : Here → First Here Silent Later
  later : Silent → Later → First Here Silent Later

-- the first check that refuses gives this refusal
abbrev pub Refused : {E : Type 0} → List (E → Type 0) → E → Type 0
Refused [] e = ⊥
Refused {E} (check ∷ checks) e = First (check e) ((other : E) → check other → ⊥) (Refused checks e)

-- A call answers `r`: where no check refuses, a value of which `Given` holds;
-- else the refusal of the first that does, and then `Stays` holds.
abbrev pub Checked : {E V : Type 0} → List (E → Type 0) → Result V E → (V → Type 0) → Type 0 → Type 0
Checked checks r Given Stays = MatchResult r (λ value. Passes checks × Given value) (λ e. Refused checks e × Stays)
