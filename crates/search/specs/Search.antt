-- What the search for the earliest plan speaks of.
use Rattle.std.specs.Prelude.{ℕ, ◌+◌, ◌<◌, ◌≤◌, List, length}
use Rattle.std.specs.List.{AllByRecursion}
use Rattle.store.specs.declared.window.Window.{Window}
use Rattle.store.specs.Sound.{Sound}
use Rattle.store.specs.Windows.{window, window_at, Narrowed}
use Rattle.rules.specs.Firm.{Firm}
use Rattle.rules.specs.Plans.{SamePlans}
use Rattle.rules.specs.Sheets.{Sheet}
use Rattle.propagation.specs.Changes.{with_window}
use Rattle.propagation.specs.Widths.{width}

-- a window with no choice: its last day is not after its first
abbrev pub Single : Window → Type 0
Single w = w.high ≤ w.low

-- a lot whose window has more than one day
pub record Open (ws : List Window) (lot : ℕ) : Type 0 where
  pub there : lot < length ws
  pub many : (window_at ws lot).low < (window_at ws lot).high

-- the first such lot
pub record FirstOpen (ws : List Window) (lot : ℕ) : Type 0 where
  pub choice : Open ws lot
  pub before : (k : ℕ) → k < lot → Single (window_at ws k)

-- the sheet with a lot fixed at its first day
abbrev pub fixed : ℕ → Sheet → Sheet
fixed lot s = with_window lot (window (window_at s.windows lot).low (window_at s.windows lot).low) s

-- the sheet with another first day for a lot
abbrev pub from_day : ℕ → ℕ → Sheet → Sheet
from_day lot day s = with_window lot (window day (window_at s.windows lot).high) s

-- The sheet t is left of s once a day has failed: firm, inside s, with a day less at least, and with the same plans.
pub record Raised (s t : Sheet) : Type 0 where
  pub firm : Firm t
  pub sound : AllByRecursion Sound t.windows
  pub inside : Narrowed t.windows s.windows
  pub less : width t.windows < width s.windows
  pub plans : SamePlans s t

-- no window begins after a day and before another, and none that has the day ends before the other
abbrev pub Uncut : ℕ → ℕ → Window → Type 0
Uncut day next w = (day < w.low → next ≤ w.low) × (w.low ≤ day → day ≤ w.high → next ≤ w.high + 1)

-- the next day to try for a lot: until then every window has each day or none
pub record NextDay (ws : List Window) (lot next : ℕ) : Type 0 where
  pub later : (window_at ws lot).low < next
  pub uncut : (k : ℕ) → k < length ws → Uncut (window_at ws lot).low next (window_at ws k)
