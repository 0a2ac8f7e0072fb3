-- The tightest windows of one rule: the smallest windows, and the smallest count window, that hold every choice with a
-- count that the rule allows.
use Rattle.std.specs.Prelude.{◌≡◌, ℕ, ◌<◌, List, Option, length, slice_index, MatchOption}
use Rattle.store.specs.declared.window.Window.{Window}
use Rattle.store.specs.Windows.{window_at}
use Rattle.nvalue.specs.Choices.{Choice}
use Rattle.nvalue.specs.Nvalue.{nvalue, Counts}
use Rattle.nvalue.specs.declared.count_window.CountWindow.{CountWindow}
use Rattle.propagator.specs.declared.tighten.Tight.{Tight}

-- the smallest windows that hold every choice of which P holds: each end is the day of one, and none is lost
pub record Hull (ws : List Window) (P : List ℕ → Type 0) (is : List Window) : Type 0 where
  pub each : length is ≡ length ws
  pub low : (i : ℕ) → i < length ws → (ds : List ℕ) × Choice ws ds × P ds × (slice_index ds i ≡ (window_at is i).low)
  pub high : (i : ℕ) → i < length ws → (ds : List ℕ) × Choice ws ds × P ds × (slice_index ds i ≡ (window_at is i).high)
  pub kept : (ds : List ℕ) → Choice ws ds → P ds → Choice is ds

-- the smallest windows, and the smallest count window, for the choices with a count from floor to ceiling
pub record Tightest (ws : List Window) (floor ceiling : ℕ) (is : List Window) (least most : ℕ) : Type 0 where
  pub hull : Hull ws (Counts floor ceiling) is
  pub least_is : (ds : List ℕ) × Choice ws ds × Counts floor ceiling ds × (nvalue ds ≡ least)
  pub most_is : (ds : List ℕ) × Choice ws ds × Counts floor ceiling ds × (nvalue ds ≡ most)
  pub between : (ds : List ℕ) → Choice ws ds → Counts floor ceiling ds → Counts least most ds

-- no choice has a count from floor to ceiling
abbrev pub NoSuchChoice : List Window → ℕ → ℕ → Type 0
NoSuchChoice ws floor ceiling = (ds : List ℕ) → Choice ws ds → Counts floor ceiling ds → ⊥

-- one rule's windows and count window are tightened, or no choice is left
abbrev pub TightensTo : List Window → CountWindow → List Window → Option CountWindow → Type 0
TightensTo ws count is r =
    MatchOption r (NoSuchChoice ws count.floor count.ceiling)
    (λ new. Tightest ws count.floor count.ceiling is new.floor new.ceiling)

-- the same where the windows are answered too
abbrev pub Tightens : List Window → CountWindow → Option Tight → Type 0
Tightens ws count r =
    MatchOption r (NoSuchChoice ws count.floor count.ceiling)
    (λ new. Tightest ws count.floor count.ceiling new.season.windows.now new.count.floor new.count.ceiling)
