-- Which windows make no season, as checks in their order.
use Rattle.std.specs.Prelude.{◌≡◌, ℕ, ◌<◌, ◌≤◌, ◌+◌, List, [], ◌∷◌, length, Option, Result, MatchOption}
use Rattle.std.specs.List.{AllByRecursion}
use Rattle.store.specs.declared.window.Window.{Window}
use Rattle.store.specs.Checks.{Checked, refuse}
use Rattle.store.specs.Over.{over}
use Rattle.store.specs.Sound.{FirstFaulty, Sound}
use Rattle.nvalue.specs.Choices.{part}
use Rattle.nvalue.specs.declared.season.Season.{Season}
use Rattle.nvalue.specs.declared.season.SeasonFault.{SeasonFault}
use Rattle.nvalue.specs.declared.season.SeasonFault.TheVariants.{TooManyLots, FaultyWindow}

-- the check that refuses windows for the first faulty one, and names its lot
abbrev pub faulty : {E : Type 0} → (ℕ → E) → List Window → E → Type 0
faulty Names ws e = (p : ℕ) × FirstFaulty ws p × (e ≡ Names p)

-- more than 256 windows are refused, then a faulty one: with the refusals of a call
abbrev pub lot_checks : {E : Type 0} → E → (ℕ → E) → List Window → List (E → Type 0)
lot_checks Many Names ws = refuse Many (256 < length ws) ∷ faulty Names ws ∷ []

abbrev pub season_checks : List Window → List (SeasonFault → Type 0)
season_checks ws = lot_checks TooManyLots FaultyWindow ws

-- windows at the head of a room, and the rest of it as before; more than 256 leave the room as it is
pub record Filled (ws was is : List Window) : Type 0 where
  pub few : length ws ≤ 256 → is ≡ over ws was
  pub many : 256 < length ws → is ≡ was

-- so many lots, at most 256, all of them with sound windows
abbrev pub CountsLots : List Window → ℕ → Type 0
CountsLots ws lots = (lots ≡ length ws) × (length ws ≤ 256) × AllByRecursion Sound ws

-- the windows of a store are read, and how many they are is answered
abbrev pub Reads : List Window → Result ℕ SeasonFault → Type 0
Reads ws r = Checked (season_checks ws) r (CountsLots ws) (Unit {0})

-- the windows make a season
abbrev pub Makes : List Window → Result Season SeasonFault → Type 0
Makes ws r = Checked (season_checks ws) r (λ season. season.windows.now ≡ ws) (Unit {0})

-- so many lots in a row make a season, where there are such
abbrev pub TakesPart : List Window → ℕ → ℕ → Option Season → Type 0
TakesPart ws first lots r =
    MatchOption r (length ws < first + lots)
    (λ season. (first + lots ≤ length ws) × (season.windows.now ≡ part ws first lots))
