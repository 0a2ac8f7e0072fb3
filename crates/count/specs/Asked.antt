-- What fewest and most are asked: the checks in their order, and what the lent memory holds afterwards.
-- `work` is how many working words were lent, `room` how many answer words.
use Rattle.std.specs.Prelude.{◌≡◌, ℕ, ◌+◌, ◌-◌, ◌*◌, ◌<◌, ◌≤◌, List, [], ◌∷◌, ◌++◌, map, length, take, drop, Result}
use Rattle.std.specs.List.{AllByRecursion}
use Rattle.store.specs.declared.window.Window.{Window}
use Rattle.store.specs.Checks.{Checked, refuse}
use Rattle.store.specs.Pairs.{paired}
use Rattle.nvalue.specs.Choices.{part}
use Rattle.nvalue.specs.Seasons.{lot_checks}
use Rattle.nvalue.specs.Stretches.{LiesWithin}
use Rattle.nvalue.specs.declared.stretch.Stretch.{Stretch}
use Rattle.count.specs.declared.fault.CountFault.{CountFault}
use Rattle.count.specs.declared.fault.CountFault.TheVariants.{ShortWork, TooManyLots, FaultyWindow, NoSuchStretch, ShortAnswer}
use Rattle.extremes.specs.Shown.{Least, Greatest}
use Rattle.extremes.specs.declared.matching.Most.{Most}

-- that there is such a stretch, and two answer words for each of its lots
abbrev pub stretch_checks : ℕ → Stretch → ℕ → List (CountFault → Type 0)
stretch_checks lots s room =
    refuse NoSuchStretch (LiesWithin lots s → ⊥)
    ∷ refuse ShortAnswer (room < 2 * s.length)
    ∷ []

-- the checks of a question that has its working words
abbrev pub lent_checks : List Window → Stretch → ℕ → List (CountFault → Type 0)
lent_checks ws s room = lot_checks TooManyLots FaultyWindow ws ++ stretch_checks (length ws) s room

-- all checks of a question, in their order
abbrev pub count_checks : ℕ → List Window → Stretch → ℕ → List (CountFault → Type 0)
count_checks work ws s room = refuse ShortWork (work < 4096) ∷ lent_checks ws s room

-- The answer words hold a choice for the windows ws of a stretch, one word a lot, then m lot numbers; `first` is the
-- number of the stretch's first lot.
pub record FewestAnswer (ws : List Window) (first : ℕ) (was is : List ℕ) (m : ℕ) : Type 0 where
  pub shown : Least ws (take (length ws) is) (map (λ lot. lot - first) (part is (length ws) m)) m
  pub numbers : AllByRecursion (λ lot. first ≤ lot) (part is (length ws) m)
  pub rest : drop (length ws + m) is ≡ drop (length ws + m) was

-- The answer words hold a choice for the windows ws of a stretch, one word a lot, then s runs as first and last day.
pub record MostAnswer (ws : List Window) (was is : List ℕ) (m s : ℕ) : Type 0 where
  pub shown : Greatest ws (take (length ws) is) (paired (part is (length ws) (2 * s))) m
  pub many : length (paired (part is (length ws) (2 * s))) ≡ s
  pub rest : drop (length ws + 2 * s) is ≡ drop (length ws + 2 * s) was

-- the same where count and runs are one value
abbrev pub MostShown : List Window → ℕ → List ℕ → List ℕ → Most → Type 0
MostShown ws first was is m = MostAnswer ws was is m.count m.runs

-- A question about a stretch that has these checks answers `r`, and the answer words are `is` in place of `was`: what
-- it answers holds of the windows of the stretch; refused, the answer words stay.
abbrev pub Answered : {C : Type 0} → (List Window → ℕ → List ℕ → List ℕ → C → Type 0) → List (CountFault → Type 0)
    → List Window → Stretch → List ℕ → Result C CountFault → List ℕ → Type 0
Answered Answers checks ws s was r is =
    Checked checks r (λ m. Answers (part ws s.first s.length) s.first was is m) (is ≡ was)

-- the same where the working words are at hand
abbrev pub AnsweredLent : {C : Type 0} → (List Window → ℕ → List ℕ → List ℕ → C → Type 0)
    → List Window → Stretch → List ℕ → Result C CountFault → List ℕ → Type 0
AnsweredLent Answers ws s was r is = Answered Answers (lent_checks ws s (length was)) ws s was r is

-- and where the windows are sound
abbrev pub AnsweredOf : {C : Type 0} → (List Window → ℕ → List ℕ → List ℕ → C → Type 0)
    → List Window → Stretch → List ℕ → Result C CountFault → List ℕ → Type 0
AnsweredOf Answers ws s was r is = Answered Answers (stretch_checks (length ws) s (length was)) ws s was r is

-- a question over the windows ws, with these working words
abbrev pub Asks : {C : Type 0} → (List Window → ℕ → List ℕ → List ℕ → C → Type 0)
    → List Window → Stretch → List ℕ → List ℕ → Result C CountFault → List ℕ → Type 0
Asks Answers ws s work was r is = Answered Answers (count_checks (length work) ws s (length was)) ws s was r is

-- the two questions
abbrev pub AsksFewest : List Window → Stretch → List ℕ → List ℕ → Result ℕ CountFault → List ℕ → Type 0
AsksFewest ws s work was r is = Asks FewestAnswer ws s work was r is

abbrev pub AsksMost : List Window → Stretch → List ℕ → List ℕ → Result Most CountFault → List ℕ → Type 0
AsksMost ws s work was r is = Asks MostShown ws s work was r is
