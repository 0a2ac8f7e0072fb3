-- What planning a sheet file gives: the first refusal on the way, or the earliest plan of the sheet that it holds.
use Rattle.std.specs.Prelude.{◌≡◌, ℕ, ◌<◌, ◌≤◌, List, [], ◌∷◌, length, Result, MatchResult}
use Rattle.std.specs.List.{AllByRecursion}
use Rattle.store.specs.Checks.{Refused, refuse}
use Rattle.store.specs.Over.{over}
use Rattle.store.specs.Sound.{Sound}
use Rattle.nvalue.specs.Seasons.{faulty}
use Rattle.rules.specs.Plans.{Earliest, NoPlan}
use Rattle.rules.specs.Sheets.{Fits, Sheet}
use Rattle.sheet.specs.declared.fault.SheetFault.{SheetFault}
use Rattle.sheet.specs.declared.fault.SheetFault.TheVariants as fault
use Rattle.sheet.specs.Drafts.{rules_checks}
use Rattle.file.specs.declared.fault.FileFault.{FileFault}
use Rattle.file.specs.declared.fault.FileFault.TheVariants.{NoSheetFile, TrailerDisagrees, Sheet as Of}
use Rattle.file.specs.Format.{Holds}
use Rattle.file.specs.Reads.{Agrees, Ends}

-- a file that holds a sheet of sound windows and of rules that fit
pub record Accepted (file : List ℕ) (s : Sheet) : Type 0 where
  pub holds : Holds file s
  pub sound : AllByRecursion Sound s.windows
  pub fit : AllByRecursion (Fits (length s.windows)) s.rules

-- the checks of a file's bytes
abbrev pub file_checks : List ℕ → List (FileFault → Type 0)
file_checks file =
    refuse TrailerDisagrees (1288 < length file)
    ∷ refuse NoSheetFile (Ends file → ⊥)
    ∷ refuse TrailerDisagrees (Agrees file → ⊥)
    ∷ []

-- those of the sheet that it holds: a faulty window, and then the rules in order
abbrev pub fit_checks : Sheet → List (SheetFault → Type 0)
fit_checks s = faulty fault.FaultyWindow s.windows ∷ rules_checks (length s.windows) s.rules

-- those of planning a sheet that was accepted, where there is room for so many days
abbrev pub last_checks : Sheet → ℕ → List (SheetFault → Type 0)
last_checks s room = refuse fault.ShortAnswer (room < length s.windows) ∷ refuse fault.NoPlan (NoPlan s) ∷ []

-- The refusal that planning a file meets first, where there is room for so many days.
pub data Refuses (file : List ℕ) (room : ℕ) (e : FileFault) : Type 0 where
  unread : Refused (file_checks file) e → Refuses file room e
  unfit : (s : Sheet) (why : SheetFault) → Holds file s → Refused (fit_checks s) why → e ≡ Of why → Refuses file room e
  unplanned : (s : Sheet) (why : SheetFault) → Accepted file s → Refused (last_checks s room) why → e ≡ Of why
      → Refuses file room e

-- the file's sheet has an earliest plan, which stands over the answer words that were; so many lots are answered
pub record PlanOf (file was is : List ℕ) (lots : ℕ) : Type 0 where
  pub s : Sheet
  pub accepted : Accepted file s
  pub days : List ℕ
  pub first : Earliest s days
  pub room : length s.windows ≤ length was
  pub many : lots ≡ length s.windows
  pub words : is ≡ over days was

-- What planning a file into answer words gives.
abbrev pub PlansFile : List ℕ → List ℕ → Result ℕ FileFault → List ℕ → Type 0
PlansFile file was r is = MatchResult r (PlanOf file was is) (λ e. Refuses file (length was) e × (is ≡ was))
