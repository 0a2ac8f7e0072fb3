-- What planning plain words gives, for the windows of the lots and for the rules.
use Rattle.std.specs.Prelude.{◌≡◌, ℕ, ◌≤◌, List, [], ◌∷◌, length, Ok, Err}
use Rattle.store.specs.declared.window.Window.{Window}
use Rattle.store.specs.Over.{over}
use Rattle.rules.specs.declared.row.Row.{Row}
use Rattle.rules.specs.Plans.{Earliest}
use Rattle.rules.specs.Sheets.{row, sheet}
use Rattle.sheet.specs.declared.book.Book.{Book}
use Rattle.sheet.specs.declared.fault.SheetFault.{SheetFault}
use Rattle.sheet.specs.declared.slip.Closed.{Closed}
use Rattle.sheet.specs.Drafts.{Opens}
use Rattle.sheet.specs.Faults.{number_of}
use Rattle.plan.specs.Planned.{Planned}

-- Rules on plain words: of each its first lot, length, floor and ceiling. A rest of fewer than four words is no rule.
abbrev pub rules_in : List ℕ → List Row
rules_in [] = []
rules_in (a ∷ []) = []
rules_in (a ∷ b ∷ []) = []
rules_in (a ∷ b ∷ c ∷ []) = []
rules_in (first ∷ len ∷ floor ∷ ceiling ∷ rest) = row first len floor ceiling ∷ rules_in rest

-- A sheet is started, the rules are added in order, it is closed and planned: 0 and the earliest plan over the first
-- answer words, or the number of the first refusal and the answer words as they were.
-- `work` is how many working words were lent, `fresh` the book that was there before the sheet.
pub data PlansWords (work : ℕ) (ws : List Window) (rows : List Row) (was : List ℕ) (number : ℕ) (is : List ℕ)
    : Type 0 where
  not_opened : (e : SheetFault) (fresh book : Book) → Opens ws rows fresh (Err e) book
      → number ≡ number_of e → is ≡ was → PlansWords work ws rows was number is
  not_planned : (e : SheetFault) (fresh book : Book) (slip : Closed) → Opens ws rows fresh (Ok slip) book
      → Planned work slip.lots slip.rules ws book was (Err e) is
      → number ≡ number_of e → is ≡ was → PlansWords work ws rows was number is
  planned : (fresh book : Book) (slip : Closed) (ds : List ℕ) → Opens ws rows fresh (Ok slip) book
      → Earliest (sheet ws rows) ds → length ws ≤ length was
      → number ≡ 0 → is ≡ over ds was → PlansWords work ws rows was number is
