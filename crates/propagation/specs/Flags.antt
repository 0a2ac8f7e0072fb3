-- Finding a flag that is set.
use Rattle.std.specs.Prelude.{◌≡◌, ℕ, ◌<◌, Bool, true, false, List, length, Option, MatchOption, slice_index_or}

-- the place of a flag that is set, or that none is
abbrev pub FindsSet : List Bool → Option ℕ → Type 0
FindsSet flags r =
    MatchOption r
    ((k : ℕ) → k < length flags → slice_index_or flags k true ≡ false)
    (λ k. (k < length flags) × (slice_index_or flags k true ≡ true))
