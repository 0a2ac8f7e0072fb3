-- What a worked example says, and what that means: by the definitions, and by the relations of the calls.
use Rattle.std.specs.Prelude.{◌≡◌, ℕ, ◌≤◌, ◌↔◌, List, [], ◌∷◌, length, Ok, Err, Result}
use Rattle.store.specs.declared.half_line.HalfLine.{HalfLine}
use Rattle.store.specs.declared.half_line.HalfLine.TheVariants.{From, UpTo}
use Rattle.store.specs.declared.window.Window.{Window}
use Rattle.store.specs.Over.{over}
use Rattle.store.specs.Windows.{Trims}
use Rattle.base_stores.specs.Masks.{kept, window_of_mask}
use Rattle.calendar.specs.Calendars as calendar
use Rattle.nvalue.specs.Nvalue.{nvalue}
use Rattle.extremes.specs.Shown.{Least, Greatest}
use Rattle.rules.specs.Sheets.{Sheet}
use Rattle.rules.specs.Plans.{Earliest, NoPlan}
use Rattle.rules.specs.Firm.{GreatestFirm, NoFirm}
use Rattle.sheet.specs.declared.book.Book.{Book}
use Rattle.sheet.specs.declared.fault.SheetFault.{SheetFault}
use Rattle.sheet.specs.Asks.{AllAgree, NotBefore, NotAfter}
use Rattle.sheet.specs.Books.{lots_of, rules_of, sheet_of}
use Rattle.sheet.specs.Faults.{number_of}
use Rattle.plan.specs.Planned.{Planned}
use Rattle.plan.specs.Settles.{Settles}

pub data Claim : Type 0 where
  -- settled, the first sheet is the second
  settles : Sheet → Sheet → Claim
  -- nothing firm lies inside the sheet, and settle refuses with this number
  nothing_firm : Sheet → (number : ℕ) → Claim
  -- these days are the sheet's earliest plan, and so many are different
  plans : Sheet → List ℕ → ℕ → Claim
  -- the sheet has no plan, and plan refuses with this number
  no_plan : Sheet → (number : ℕ) → Claim
  -- the fewest different days are as many as these lots, which share no day
  fewest : List Window → List ℕ → Claim
  -- the most different days are so many, as these runs show
  most : List Window → List Window → ℕ → Claim
  -- before dispatch on a last day, a window shows as another; not before a day there, it is a third one below
  before_dispatch : (last : ℕ) → Window → Window → (day : ℕ) → Window → Claim
  -- in periods of so many days, a window shows as another; neither before nor after one, it is a third below
  in_one_period : (days : ℕ) → Window → Window → (period : ℕ) → Window → Claim
  -- a mask reads as a window; not before a day, it is another mask
  mask : ℕ → Window → (day : ℕ) → ℕ → Claim

-- what a call on a sheet is lent: enough working words, a slip and a book that agree, in the book the sheet's rules
pub record Lent (work lots rules : ℕ) (book : Book) (s : Sheet) : Type 0 where
  pub enough : 4096 ≤ work
  pub agree : AllAgree lots rules book s.windows
  pub same : rules_of book ≡ s.rules

-- whatever it is lent, settle gives on a sheet just an answer, windows and a book such as these
abbrev pub SettleGives : Sheet → (Book → Result (Unit {0}) SheetFault → List Window → Book → Type 0) → Type 0
SettleGives s Gives =
    (work lots rules : ℕ) (was : Book) (r : Result (Unit {0}) SheetFault) (is : List Window) (now' : Book)
    → Lent work lots rules was s → Settles work lots rules s.windows was r is now' ↔ Gives was r is now'

-- whatever it is lent, with room for the days, plan gives just an answer and answer words such as these
abbrev pub PlanGives : Sheet → (List ℕ → Result ℕ SheetFault → List ℕ → Type 0) → Type 0
PlanGives s Gives =
    (work lots rules : ℕ) (book : Book) (was : List ℕ) (r : Result ℕ SheetFault) (is : List ℕ)
    → Lent work lots rules book s → length s.windows ≤ length was
    → Planned work lots rules s.windows book was r is ↔ Gives was r is

-- refused with a number
abbrev pub RefusedWith : {V : Type 0} → ℕ → Result V SheetFault → Type 0
RefusedWith number r = (why : SheetFault) × (r ≡ Err why) × (number_of why ≡ number)

-- a sheet has one lot, whose window is asked to lie in a half-line
abbrev pub Asks : HalfLine → ℕ → ℕ → Book → List Window → Result (Unit {0}) SheetFault → List Window → Type 0
Asks (From day) = NotBefore 0 day
Asks (UpTo day) = NotAfter 0 day

-- such an ask gives just this: it is accepted, and the window is this one
abbrev pub AskGives : HalfLine → Window → Window → Type 0
AskGives days w v =
    (lots rules : ℕ) (book : Book) (r : Result (Unit {0}) SheetFault) (is : List Window)
    → AllAgree lots rules book (w ∷ []) → Asks days lots rules book (w ∷ []) r is ↔ (r ≡ Ok tt) × (is ≡ v ∷ [])

-- the window of a store's one lot moves where it is to lie in a half-line
abbrev pub Moves : HalfLine → Window → Window → Type 0
Moves days w v = Trims (w ∷ []) 0 days (Ok tt) (v ∷ [])

-- how a store is shown: a window, and what a half-line and a window that is shown stand for below
pub record Calendar : Type 0 where
  pub shown : Window → Window
  pub days : HalfLine → HalfLine
  pub below : Window → Window → Window

abbrev pub dispatch : ℕ → Calendar
dispatch last = record {
  shown = calendar.before_dispatch last;
  days = calendar.dispatch_days last;
  below = calendar.dispatch_window last;
}

abbrev pub periods : ℕ → Calendar
periods n = record { shown = calendar.in_periods n; days = calendar.period_days n; below = calendar.period_window n }

-- the days of the season themselves
abbrev pub season : Calendar
season = record { shown = λ w. w; days = λ days. days; below = λ before w. w }

-- what is shown of a window is asked to lie in a half-line: it does then, and the window below is another
pub record Asked (c : Calendar) (days : HalfLine) (w v : Window) : Type 0 where
  pub asked : AskGives days (c.shown w) (c.shown v)
  pub moves : Moves days (c.shown w) (c.shown v)
  pub moves_below : Moves (c.days days) w v
  pub below : c.below w (c.shown v) ≡ v

abbrev pub Holds : Claim → Type 0
Holds (settles s t) =
    GreatestFirm s t
    × SettleGives s (λ was r is now'. (r ≡ Ok tt) × (lots_of now' ≡ lots_of was) × (sheet_of is now' ≡ t))
Holds (nothing_firm s number) =
    NoFirm s × SettleGives s (λ was r is now'. RefusedWith number r × (is ≡ s.windows) × (now' ≡ was))
Holds (plans s days count) =
    Earliest s days × (nvalue days ≡ count) × PlanGives s (λ was r is. (r ≡ Ok count) × (is ≡ over days was))
Holds (no_plan s number) = NoPlan s × PlanGives s (λ was r is. RefusedWith number r × (is ≡ was))
Holds (fewest ws lots) = (days : List ℕ) × Least ws days lots (length lots)
Holds (most ws runs m) = (days : List ℕ) × Greatest ws days runs m
Holds (before_dispatch last w shown day v) =
    (calendar.before_dispatch last w ≡ shown) × Asked (dispatch last) (From day) w v
Holds (in_one_period days w shown period v) =
    (calendar.in_periods days w ≡ shown)
    × (between : Window) × Asked (periods days) (From period) w between × Asked (periods days) (UpTo period) between v
Holds (mask m w day n) =
    (window_of_mask m ≡ w) × Asked season (From day) w (window_of_mask n) × (kept m (window_of_mask n) ≡ n)
