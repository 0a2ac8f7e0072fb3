-- Alternating reachability: the days that are seen, and those that can be reached from them.
use Rattle.std.specs.Prelude.{◌≡◌, ℕ, ◌+◌, ◌<◌, ◌≤◌, ◌⊎◌, Bool, List, Option, length, ◌≢◌, slice_index, MatchOption}
use Rattle.store.specs.declared.window.Window.{Window}
use Rattle.store.specs.Windows.{window, window_at}
use Rattle.nvalue.specs.Choices.{In}
use Rattle.propagator.specs.declared.shut.Matching.{Matching}
use Rattle.propagator.specs.declared.reach.Reach.{Reach}
use Rattle.propagator.specs.Supports.{NoSupport}
use Rattle.extremes.specs.Flags.{Set}

abbrev pub Seen : Reach → ℕ → Type 0
Seen reach day = (reach.from ≤ day) × (day < reach.to)

abbrev pub CanReach : Reach → ℕ → Type 0
CanReach reach day = (reach.low ≤ day) × (day ≤ reach.high)

-- one more of the days that can be reached is seen
pub record Sees (was : Reach) (day : ℕ) (is : Reach) : Type 0 where
  pub can_reach : CanReach was day
  pub unseen : Seen was day → ⊥
  pub here : Seen is day
  pub kept : (e : ℕ) → Seen was e → Seen is e
  pub only : (e : ℕ) → Seen is e → e ≢ day → Seen was e
  pub low : is.low ≡ was.low
  pub high : is.high ≡ was.high
  pub more : was.to + is.from < is.to + was.from

-- The days seen are not the lot's own. Each is that of some lot, and the lots that have them are spare, or have no day
-- but such as can be reached.
pub record Passed (ws : List Window) (days : List ℕ) (spare : List Bool) (lot : ℕ) (reach : Reach) : Type 0 where
  pub held : (e : ℕ) → Seen reach e → (l : ℕ) × (l < length ws) × (slice_index days l ≡ e)
  pub closed : (k : ℕ) → k < length ws → Seen reach (slice_index days k)
      → Set spare k ⊎ ((d : ℕ) → In (window_at ws k) d → CanReach reach d)
  pub own : Seen reach (slice_index days lot) → ⊥

-- at a day: all others that can be reached are seen
pub record Facing (ws : List Window) (days : List ℕ) (spare : List Bool) (lot day : ℕ) (reach : Reach) : Type 0 where
  pub can_reach : CanReach reach day
  pub only : (e : ℕ) → CanReach reach e → (Seen reach e → ⊥) → e ≡ day
  pub passed : Passed ws days spare lot reach

-- all days that can be reached are seen, and no best choice gives the lot one of them
pub record ShutOut (ws : List Window) (days : List ℕ) (spare : List Bool) (lot day : ℕ) (reach : Reach) : Type 0 where
  pub can_reach : CanReach reach day
  pub from : reach.from ≡ reach.low
  pub to : reach.to ≡ reach.high + 1
  pub passed : Passed ws days spare lot reach
  pub no_support : NoSupport ws lot (window reach.low reach.high)

-- a step sees one more day, or all that can be reached are seen
abbrev pub Steps : Reach → Option ℕ → Reach → Type 0
Steps was r is =
    MatchOption r ((is ≡ was) × (was.from ≡ was.low) × (was.to ≡ was.high + 1)) (λ day. Sees was day is)

-- the last two of a matching
abbrev pub Faces : Matching → ℕ → ℕ → Reach → Type 0
Faces m lot day reach = Facing m.season.windows.now m.days.now m.spare.now lot day reach

abbrev pub Shuts : Matching → ℕ → ℕ → Reach → Type 0
Shuts m lot day reach = ShutOut m.season.windows.now m.days.now m.spare.now lot day reach
