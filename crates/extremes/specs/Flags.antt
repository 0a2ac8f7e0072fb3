-- Flags: which are set. Past the last one none is.
use Rattle.std.specs.Prelude.{◌≡◌, ℕ, ◌<◌, Bool, true, false, List, Option, length, slice_index_or, MatchOption}

abbrev pub Set : List Bool → ℕ → Type 0
Set flags k = slice_index_or flags k false ≡ true

abbrev pub Unset : List Bool → ℕ → Type 0
Unset flags k = slice_index_or flags k false ≡ false

-- some flag that is set, or none is
abbrev pub FindsSet : List Bool → Option ℕ → Type 0
FindsSet flags r =
    MatchOption r ((k : ℕ) → k < length flags → Unset flags k) (λ k. (k < length flags) × Set flags k)
