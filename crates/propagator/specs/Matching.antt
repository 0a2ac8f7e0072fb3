-- The matching that a choice is: which lot has each day, and which lots the best choices can spare.
use Rattle.std.specs.Prelude.{◌≡◌, ℕ, ◌<◌, ◌≤◌, Bool, ◌⊎◌, List, length, Option, None, Some, ◌≢◌, slice_index, slice_index_or, slice_set, true, false, cond, MatchOption}
use Rattle.store.specs.declared.window.Window.{Window}
use Rattle.store.specs.Windows.{window_at}
use Rattle.nvalue.specs.Choices.{In}
use Rattle.extremes.specs.Flags.{Set, Unset}
use Rattle.extremes.specs.Turns.{EndBefore}
use Rattle.propagator.specs.declared.shut.Matching.{Matching}
use Rattle.propagator.specs.Supports.{Best, BestDay}

-- a day's mate: the lot that has it
abbrev pub Mate : List (Option ℕ) → ℕ → ℕ → Type 0
Mate mates day lot = slice_index_or mates day None ≡ Some lot

abbrev pub Unmatched : List (Option ℕ) → ℕ → Type 0
Unmatched mates day = slice_index_or mates day None ≡ None

-- The first t lots of a choice are matched: a lot that has the day is the mate of each of their days, other days have
-- none, and the lots that share a day are spare.
pub record Mated (t : ℕ) (days : List ℕ) (mates : List (Option ℕ)) (spare : List Bool) : Type 0 where
  pub mate : (day k : ℕ) → Mate mates day k → (k < t) × (slice_index days k ≡ day)
  pub matched : (k : ℕ) → k < t → (l : ℕ) × Mate mates (slice_index days k) l
  pub company : (k l : ℕ) → k < t → l < t → k ≢ l → slice_index days k ≡ slice_index days l → Set spare k
  pub shared : (k : ℕ) → Set spare k → (k < t)
      × ((l : ℕ) × (l < t) × (l ≢ k) × (slice_index days l ≡ slice_index days k))

-- The spare lots: best choices give them any day of their windows. Lots that share a day are spare, and all days of a
-- spare lot's window are those of spare lots.
pub record Spared (ws : List Window) (days : List ℕ) (spare : List Bool) : Type 0 where
  pub any : (k : ℕ) → k < length ws → Set spare k → (day : ℕ) → In (window_at ws k) day → BestDay ws k day
  pub company : (k l : ℕ) → k < length ws → l < length ws → k ≢ l → slice_index days k ≡ slice_index days l
      → Set spare k
  pub closed : (k : ℕ) → k < length ws → Set spare k → (day : ℕ) → In (window_at ws k) day
      → (l : ℕ) × (l < length ws) × Set spare l × (slice_index days l ≡ day)

-- The lots that have a day from `from` on and before `end` become spare, and those that were not are pending.
pub record Spread (from end : ℕ) (mates : List (Option ℕ)) (spare pending is_spare is_pending : List Bool) : Type 0 where
  pub all : (day k : ℕ) → from ≤ day → day < end → Mate mates day k → Set is_spare k
  pub kept : (k : ℕ) → Set spare k → Set is_spare k
  pub only : (k : ℕ) → Set is_spare k → Set spare k ⊎ ((day : ℕ) × (from ≤ day) × (day < end) × Mate mates day k)
  pub waits : (k : ℕ) → Set pending k → Set is_pending k
  pub new : (k : ℕ) → Set is_spare k → Set spare k ⊎ Set is_pending k
  pub news : (k : ℕ) → Set is_pending k → Set pending k ⊎ (Unset spare k × Set is_spare k)

-- the matching of a best choice, in a room for every day of the windows
pub record MatchingOf (ws : List Window) (days : List ℕ) (mates : List (Option ℕ)) (spare : List Bool) : Type 0 where
  pub best : Best ws days
  pub mate : (day k : ℕ) → Mate mates day k → (k < length ws) × (slice_index days k ≡ day)
  pub matched : (k : ℕ) → k < length ws → (l : ℕ) × Mate mates (slice_index days k) l
  pub spared : Spared ws days spare
  pub each : length spare ≡ length ws
  pub ends : EndBefore (length mates) ws

-- a lot that takes its day: where another has that day already, both are spare
abbrev pub SharesWith : Option ℕ → ℕ → List Bool → List Bool → Type 0
SharesWith was lot spare is_spare =
    MatchOption was (is_spare ≡ spare) (λ other. is_spare ≡ slice_set (slice_set spare other true) lot true)

-- a lot becomes pending where it was not spare
abbrev pub Waits : List Bool → ℕ → List Bool → List Bool → Type 0
Waits spare lot pending is = is ≡ cond (slice_index_or spare lot false) pending (slice_set pending lot true)

-- the same of the struct that holds it
abbrev pub IsMatching : Matching → Type 0
IsMatching m = MatchingOf m.season.windows.now m.days.now m.mates.now m.spare.now
