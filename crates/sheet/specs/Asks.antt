-- What the four asks give: the order of their checks, and what an accepted one leaves. A refusal changes nothing.
use Rattle.std.specs.Prelude.{◌≡◌, ℕ, ◌<◌, ◌≤◌, min, max, List, [], ◌∷◌, length, Ok, Result, slice_set}
use Rattle.store.specs.Checks.{Checked, refuse}
use Rattle.store.specs.declared.fault.StoreFault.{StoreFault}
use Rattle.store.specs.declared.fault.StoreFault.TheVariants.{NoSuchLot, WouldEmpty}
use Rattle.store.specs.declared.half_line.HalfLine.{HalfLine}
use Rattle.store.specs.declared.half_line.HalfLine.TheVariants.{From, UpTo}
use Rattle.store.specs.declared.window.Window.{Window}
use Rattle.store.specs.Windows.{end_of, window_at, Within, Misses, Trims}
use Rattle.rules.specs.declared.row.Row.{Row}
use Rattle.rules.specs.Sheets.{rule_at}
use Rattle.sheet.specs.declared.book.Book.{Book}
use Rattle.sheet.specs.declared.fault.SheetFault.{SheetFault}
use Rattle.sheet.specs.declared.fault.SheetFault.TheVariants.{Store, Mismatch, NoSuchDay, NoSuchRule, NoCountLeft}
use Rattle.sheet.specs.Books.{rules_of, lots_of}
use Rattle.sheet.specs.Drafts.{Agree}

-- slip, book and store have the same lots, and slip and book as many rules
abbrev pub AllAgree : ℕ → ℕ → Book → List Window → Type 0
AllAgree lots rules book ws = Agree lots rules book × (lots ≡ length ws)

-- the store's own refusal, whole, with the lot
abbrev pub of_store : ℕ → StoreFault → SheetFault
of_store lot fault = Store (record { lot = lot; fault = fault })

-- the checks of an ask for a lot's days, over the windows of a store
abbrev pub ask_day_checks : ℕ → HalfLine → ℕ → ℕ → Book → List Window → List (SheetFault → Type 0)
ask_day_checks lot days lots rules book ws =
    refuse Mismatch (AllAgree lots rules book ws → ⊥)
    ∷ refuse NoSuchDay (9999 < end_of days)
    ∷ refuse (of_store lot NoSuchLot) (length ws ≤ lot)
    ∷ refuse (of_store lot WouldEmpty) ((Within days (window_at ws lot) → ⊥) × Misses days (window_at ws lot))
    ∷ []

-- The lot is to be extracted on a day of the half-line.
abbrev pub AsksDays : ℕ → HalfLine → ℕ → ℕ → Book → List Window → Result (Unit {0}) SheetFault → List Window → Type 0
AsksDays lot days lots rules book was r is =
    Checked (ask_day_checks lot days lots rules book was) r (λ _. Trims was lot days (Ok tt) is) (is ≡ was)

-- not before: the lot's first day is to be that day or later; not after: its last day is to be that day or earlier
abbrev pub NotBefore : ℕ → ℕ → ℕ → ℕ → Book → List Window → Result (Unit {0}) SheetFault → List Window → Type 0
NotBefore lot day = AsksDays lot (From day)

abbrev pub NotAfter : ℕ → ℕ → ℕ → ℕ → Book → List Window → Result (Unit {0}) SheetFault → List Window → Type 0
NotAfter lot day = AsksDays lot (UpTo day)

-- a rule that is to keep only the counts of a half-line: its floor rises where it lies below, or its ceiling drops
abbrev pub tightened : HalfLine → Row → Row
tightened (From number) r = record { stretch = r.stretch; floor = max r.floor number; ceiling = r.ceiling }
tightened (UpTo number) r = record { stretch = r.stretch; floor = r.floor; ceiling = min r.ceiling number }

-- the checks of an ask for a rule's counts
abbrev pub ask_count_checks : ℕ → HalfLine → ℕ → ℕ → Book → List (SheetFault → Type 0)
ask_count_checks rule counts lots rules book =
    refuse Mismatch (Agree lots rules book → ⊥)
    ∷ refuse (NoSuchRule rule) (length (rules_of book) ≤ rule)
    ∷ refuse (NoCountLeft rule) (NoneLeft (tightened counts (rule_at (rules_of book) rule)))
    ∷ []
  where
    NoneLeft : Row → Type 0
    NoneLeft r = r.ceiling < r.floor

-- The rule's stretch is to have a count of the half-line.
abbrev pub AsksCounts : ℕ → HalfLine → ℕ → ℕ → Book → Result (Unit {0}) SheetFault → Book → Type 0
AsksCounts rule counts lots rules was r is =
    Checked (ask_count_checks rule counts lots rules was) r
    (λ _. (lots_of is ≡ lots_of was)
    × (rules_of is ≡ slice_set (rules_of was) rule (tightened counts (rule_at (rules_of was) rule))))
    (is ≡ was)

-- at least: the count is to be that number or more; at most: that number or less
abbrev pub AtLeast : ℕ → ℕ → ℕ → ℕ → Book → Result (Unit {0}) SheetFault → Book → Type 0
AtLeast rule number = AsksCounts rule (From number)

abbrev pub AtMost : ℕ → ℕ → ℕ → ℕ → Book → Result (Unit {0}) SheetFault → Book → Type 0
AtMost rule number = AsksCounts rule (UpTo number)
