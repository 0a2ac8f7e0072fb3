-- The first day of a window that choices with the fewest different days use.
use Rattle.std.specs.Prelude.{◌≡◌, ℕ, ◌-◌, ◌<◌, ◌≤◌, max, List, length, slice_index}
use Rattle.extremes.specs.Mirror.{flip}

-- each number lies above those before it
abbrev pub Ascending : List ℕ → Type 0
Ascending xs = (i j : ℕ) → i < j → j < length xs → slice_index xs i < slice_index xs j

-- some point lies at or past a day
abbrev pub SomeFrom : ℕ → List ℕ → Type 0
SomeFrom low points = (j : ℕ) × (j < length points) × (low ≤ slice_index points j)

-- The first day, from `low` on, that choices with the fewest different days use, as the stabbing points tell it.
-- The first point at or past `low` has a counterpart among the points of the mirror image, which come in the
-- opposite order, and in that point's place such choices use just the days between the two.
pub record FirstSupport (low : ℕ) (points image : List ℕ) (day : ℕ) : Type 0 where
  pub place : ℕ
  pub there : place < length points
  pub before : (j : ℕ) → j < place → slice_index points j < low
  pub reached : low ≤ slice_index points place
  pub is : day ≡ max low (flip (slice_index image (length points - 1 - place)))
