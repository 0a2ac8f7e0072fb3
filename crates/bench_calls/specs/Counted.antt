-- What the counting calls give on plain words: C has no `Result`, so 0 stands for a refusal.
use Rattle.std.specs.Prelude.{◌≡◌, ℕ, ◌<◌, List, Result, MatchResult}
use Rattle.store.specs.declared.window.Window.{Window}
use Rattle.store.specs.Checks.{Refused}
use Rattle.nvalue.specs.declared.season.SeasonFault.{SeasonFault}
use Rattle.nvalue.specs.declared.stretch.Stretch.{Stretch}
use Rattle.nvalue.specs.Seasons.{season_checks}
use Rattle.count.specs.declared.fault.CountFault.{CountFault}
use Rattle.count.specs.Asked.{Asks}
use Rattle.propagator.specs.Tight.{NoSuchChoice, Tightest}

-- the first `lots` lots
abbrev pub from_first : ℕ → Stretch
from_first lots = record { first = 0; length = lots }

-- A question about the first `lots` lots: it is answered as over any store, and the number is that of its answer, or 0
-- where it is refused.
abbrev pub AsksWords : {C : Type 0} → (List Window → ℕ → List ℕ → List ℕ → C → Type 0) → (C → ℕ)
    → List Window → ℕ → List ℕ → List ℕ → ℕ → List ℕ → Type 0
AsksWords {C} Answers count ws lots work was number is =
    (r : Result C CountFault) × Asks Answers ws (from_first lots) work was r is
    × MatchResult r (λ m. number ≡ count m) (λ e. number ≡ 0)

-- The tightest windows for a count from floor to ceiling and the new ceiling; 0 and the windows as they were where there
-- is no count window, no season or no choice.
pub data TightensWords (ws : List Window) (floor ceiling number : ℕ) (is : List Window) : Type 0 where
  no_count_window : ceiling < floor → number ≡ 0 → is ≡ ws → TightensWords ws floor ceiling number is
  no_season : (e : SeasonFault) → Refused (season_checks ws) e → number ≡ 0 → is ≡ ws
      → TightensWords ws floor ceiling number is
  no_choice : NoSuchChoice ws floor ceiling → number ≡ 0 → is ≡ ws → TightensWords ws floor ceiling number is
  tightened : (least most : ℕ) → Tightest ws floor ceiling is least most → number ≡ most
      → TightensWords ws floor ceiling number is
