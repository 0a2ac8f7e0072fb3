-- Firm sheets: each end of a window or of a count window has a support. In the field's words, every rule is bound
-- consistent.
use Rattle.std.specs.Prelude.{◌≡◌, ℕ, ◌<◌, ◌≤◌, List, length, slice_index}
use Rattle.std.specs.List.{AllZip, AllByRecursion}
use Rattle.store.specs.declared.window.Window.{Window}
use Rattle.store.specs.Windows.{window_at, Narrowed}
use Rattle.nvalue.specs.Choices.{Choice}
use Rattle.nvalue.specs.Nvalue.{nvalue, Counts}
use Rattle.rules.specs.declared.row.Row.{Row}
use Rattle.rules.specs.Sheets.{Sheet, under}

-- a support for a day of the lot at place i: a choice with a count from floor to ceiling that gives the lot this day
abbrev pub Supported : List Window → ℕ → ℕ → ℕ → ℕ → Type 0
Supported ws floor ceiling i day =
    (ds : List ℕ) × Choice ws ds × Counts floor ceiling ds × (slice_index ds i ≡ day)

-- some choice for these windows has this count
abbrev pub Counted : List Window → ℕ → Type 0
Counted ws count = (ds : List ℕ) × Choice ws ds × (nvalue ds ≡ count)

-- the day at an end of each window under the rule has a support
abbrev pub SupportsEach : (Window → ℕ) → List Window → Row → Type 0
SupportsEach end ws r =
    (i : ℕ) → i < length (under r ws) → Supported (under r ws) r.floor r.ceiling i (end (window_at (under r ws) i))

-- so it is with both ends, and both ends of the rule's count window are counts
pub record FirmRule (ws : List Window) (r : Row) : Type 0 where
  pub low : SupportsEach (λ w. w.low) ws r
  pub high : SupportsEach (λ w. w.high) ws r
  pub floor : Counted (under r ws) r.floor
  pub ceiling : Counted (under r ws) r.ceiling

-- a sheet is firm: no window and no count window is empty, and every rule is firm
pub record Firm (s : Sheet) : Type 0 where
  pub days : AllByRecursion (λ w. w.low ≤ w.high) s.windows
  pub counts : AllByRecursion (λ r. r.floor ≤ r.ceiling) s.rules
  pub each : AllByRecursion (FirmRule s.windows) s.rules

-- a rule is over the stretch of another, and its count window lies inside the other's
pub record Stricter (q r : Row) : Type 0 where
  pub stretch : q.stretch ≡ r.stretch
  pub floor : r.floor ≤ q.floor
  pub ceiling : q.ceiling ≤ r.ceiling

-- the windows and count windows of a sheet lie inside those of another, lot by lot and rule by rule
pub record Inside (inner outer : Sheet) : Type 0 where
  pub windows : Narrowed inner.windows outer.windows
  pub counts : AllZip Stricter inner.rules outer.rules

-- no firm sheet lies inside this one
abbrev pub NoFirm : Sheet → Type 0
NoFirm s = (t : Sheet) → Firm t → Inside t s → ⊥

-- the firm sheet inside s that contains every other firm sheet there
pub record GreatestFirm (s is : Sheet) : Type 0 where
  pub firm : Firm is
  pub inside : Inside is s
  pub greatest : (t : Sheet) → Firm t → Inside t s → Inside t is
