-- The laws of plans and of firm sheets, each as a statement that some function's contract names.
use Rattle.std.specs.Prelude.{ℕ, ◌-◌, ◌≤◌, List, ◌++◌, length}
use Rattle.nvalue.specs.Choices.{part}
use Rattle.rules.specs.Sheets.{Sheet}
use Rattle.rules.specs.Plans.{Plan, NoPlan, Earliest, SamePlans}
use Rattle.rules.specs.Firm.{NoFirm, GreatestFirm}
use Rattle.rules.specs.Parts.{Border, part_of}

-- the greatest firm sheet has just the plans that were there
abbrev pub SettlingKeepsPlans : Type 0
SettlingKeepsPlans = (s is : Sheet) → GreatestFirm s is → SamePlans s is

-- where no firm sheet lies inside there is no plan
abbrev pub NoFirmNoPlan : Type 0
NoFirmNoPlan = (s : Sheet) → NoFirm s → NoPlan s

-- the days that a plan has for some lots in a row are a plan of the sheet of these lots
abbrev pub PartsOfPlansArePlans : Type 0
PartsOfPlansArePlans =
    (s : Sheet) (ds : List ℕ) (a b : ℕ) → a ≤ b → b ≤ length s.windows → Plan s ds
    → Plan (part_of a b s) (part ds a (b - a))

-- where no stretch goes across the border before the lot p, the earliest plans of both sides, in a row, are the
-- earliest of all
abbrev pub EarliestPlansJoin : Type 0
EarliestPlansJoin =
    (s : Sheet) (xs ys : List ℕ) (q p n : ℕ) → q ≤ p → p ≤ n → n ≤ length s.windows → Border p s.rules
    → Earliest (part_of q p s) xs → Earliest (part_of p n s) ys → Earliest (part_of q n s) (xs ++ ys)
