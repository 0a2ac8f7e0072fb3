-- A sheet's meaning: the windows of its lots, and its rules.
use Rattle.std.specs.Prelude.{ℕ, ◌≤◌, List, slice_index_or}
use Rattle.store.specs.declared.window.Window.{Window}
use Rattle.nvalue.specs.Choices.{part}
use Rattle.nvalue.specs.Stretches.{LiesWithin}
use Rattle.rules.specs.declared.row.Row.{Row}

pub record Sheet : Type 0 where
  pub windows : List Window
  pub rules : List Row

abbrev pub sheet : List Window → List Row → Sheet
sheet ws rules = record { windows = ws; rules = rules }

-- a rule: first lot and length of its stretch, floor and ceiling
abbrev pub row : ℕ → ℕ → ℕ → ℕ → Row
row first len floor ceiling = record { stretch = record { first = first; length = len }; floor = floor; ceiling = ceiling }

-- a rule with another count window
abbrev pub recounted : Row → ℕ → ℕ → Row
recounted r floor ceiling = record { stretch = r.stretch; floor = floor; ceiling = ceiling }

-- the rule with a number; no matter what past the last rule
abbrev pub rule_at : List Row → ℕ → Row
rule_at rules number = slice_index_or rules number (row 0 0 0 0)

-- of a list with one entry a lot, those of the lots under a rule
abbrev pub under : {X : Type 0} → Row → List X → List X
under r xs = part xs r.stretch.first r.stretch.length

-- a count window that a rule may have: not empty, and ending at 256 at the latest
abbrev pub Allowed : Row → Type 0
Allowed r = (r.floor ≤ r.ceiling) × (r.ceiling ≤ 256)

-- a rule that a sheet of so many lots may have
abbrev pub Fits : ℕ → Row → Type 0
Fits lots r = LiesWithin lots r.stretch × Allowed r
