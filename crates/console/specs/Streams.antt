-- What is read of an input and written to an output, in the bytes that the one has left and the other holds.
-- Each is spoken of where it is known: nobody says what a terminal gives or takes.
use Rattle.std.specs.Prelude.{◌≡◌, ℕ, ◌≤◌, List, length, take, drop, Some, Option, IfSome, Result, MatchResult}
use Rattle.std.specs.Io.KnownBytes.{Appends, Consumes}

-- the first so many bytes are read, or all where there are fewer; those behind them are left
abbrev pub ReadsFirst : ℕ → Option (List ℕ) → Option (List ℕ) → List ℕ → Type 0
ReadsFirst limit was is bytes = IfSome was (λ all. (bytes ≡ take limit all) × (is ≡ Some (drop limit all)))

-- some bytes at the front are read
abbrev pub ReadsSome : Option (List ℕ) → Option (List ℕ) → Type 0
ReadsSome was is = (front : List ℕ) × Consumes was is front

-- some bytes at the front of a text are written
abbrev pub WritesSome : Option (List ℕ) → Option (List ℕ) → List ℕ → Type 0
WritesSome was is text = (n : ℕ) × Appends was is (take n text)

-- one byte more than the longest sheet file has, so that a longer one is seen to be
abbrev pub input_limit : ℕ
input_limit = 1289

-- Reading puts the first bytes of the input, so many at the most, into a room from its start.
abbrev pub ReadsInto : {E : Type 0} → Option (List ℕ) → Option (List ℕ) → List ℕ → Result ℕ E → Type 0
ReadsInto was is room r =
    MatchResult r (λ n. (n ≤ length room) × ReadsFirst input_limit was is (take n room)) (λ e. ReadsSome was is)

-- Writing a text writes all of it, or fails.
abbrev pub WritesText : {E : Type 0} → Option (List ℕ) → Option (List ℕ) → List ℕ → Result (Unit {0}) E → Type 0
WritesText was is text r = MatchResult r (λ done. Appends was is text) (λ e. WritesSome was is text)
