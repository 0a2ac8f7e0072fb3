-- Stabbing points: days of which each window has one, as few as can be.
use Rattle.std.specs.Prelude.{◌≡◌, ℕ, ◌<◌, List, map, length, slice_index}
use Rattle.store.specs.declared.window.Window.{Window}
use Rattle.store.specs.Windows.{window_at}
use Rattle.nvalue.specs.Choices.{In}

-- the last days of some lots
abbrev pub lasts : List Window → List ℕ → List ℕ
lasts ws lots = map (λ lot. (window_at ws lot).high) lots

-- stabbing points, as few as can be: each window holds one, and each is the last day of a lot, its witness, whose
-- window begins past the points before
pub record StabbingPoints (ws : List Window) (points : List ℕ) : Type 0 where
  pub holds : (i : ℕ) → i < length ws → (j : ℕ) × (j < length points) × In (window_at ws i) (slice_index points j)
  pub witness : ℕ → ℕ
  pub there : (j : ℕ) → j < length points → witness j < length ws
  pub ends : (j : ℕ) → j < length points → (window_at ws (witness j)).high ≡ slice_index points j
  pub apart : (i j : ℕ) → i < j → j < length points → slice_index points i < (window_at ws (witness j)).low

-- the last days of these lots are stabbing points
abbrev pub Stabs : List Window → List ℕ → Type 0
Stabs ws lots = StabbingPoints ws (lasts ws lots)
