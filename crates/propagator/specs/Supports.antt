-- Best days, which are supports: the days that choices with the most different days give to a lot.
use Rattle.std.specs.Prelude.{◌≡◌, ℕ, ◌≤◌, List, slice_index}
use Rattle.store.specs.declared.window.Window.{Window}
use Rattle.nvalue.specs.Choices.{In, Choice}
use Rattle.extremes.specs.Shown.{HasMost}

-- a best choice: none has more different days
pub record Best (ws : List Window) (days : List ℕ) : Type 0 where
  pub choice : Choice ws days
  pub most : HasMost ws days

-- the day is one that a best choice gives to the lot
abbrev pub BestDay : List Window → ℕ → ℕ → Type 0
BestDay ws lot day = (ds : List ℕ) × Best ws ds × (slice_index ds lot ≡ day)

-- no best choice gives the lot a day of the block
abbrev pub NoSupport : List Window → ℕ → Window → Type 0
NoSupport ws lot block = (ds : List ℕ) → Best ws ds → In block (slice_index ds lot) → ⊥

-- no best choice gives the lot an earlier day
abbrev pub NoneBefore : List Window → ℕ → ℕ → Type 0
NoneBefore ws lot day = (ds : List ℕ) → Best ws ds → day ≤ slice_index ds lot

-- or a later one
abbrev pub NoneAfter : List Window → ℕ → ℕ → Type 0
NoneAfter ws lot day = (ds : List ℕ) → Best ws ds → slice_index ds lot ≤ day

-- the smallest window that holds every day which a best choice gives the lot
pub record BoundSupports (ws : List Window) (lot : ℕ) (used : Window) : Type 0 where
  pub low : BestDay ws lot used.low
  pub high : BestDay ws lot used.high
  pub kept : (ds : List ℕ) → Best ws ds → In used (slice_index ds lot)
