-- How a sheet falls into parts that have no rule in common.
use Rattle.std.specs.Prelude.{ℕ, ◌+◌, ◌-◌, ◌≤◌, Bool, ◌&&◌, ◌⊎◌, List, map, filter, nat_le}
use Rattle.std.specs.List.{AllByRecursion}
use Rattle.nvalue.specs.Choices.{part}
use Rattle.rules.specs.declared.row.Row.{Row}
use Rattle.rules.specs.Sheets.{Sheet, sheet}

-- no stretch goes across the border before the lot p
abbrev pub Border : ℕ → List Row → Type 0
Border p rules = AllByRecursion (λ r. (r.stretch.first + r.stretch.length ≤ p) ⊎ (p ≤ r.stretch.first)) rules

-- the stretch lies among the lots from a on and before b
abbrev pub lies : ℕ → ℕ → Row → Bool
lies a b r = nat_le a r.stretch.first && nat_le (r.stretch.first + r.stretch.length) b

-- the same rule where lots are numbered from a on
abbrev pub renumbered : ℕ → Row → Row
renumbered a r = record r { stretch = record r.stretch { first = r.stretch.first - a } }

-- the rules of the lots from a on and before b, as a sheet of just these lots has them
abbrev pub within : ℕ → ℕ → List Row → List Row
within a b rules = map (renumbered a) (filter (lies a b) rules)

-- the lots from a on and before b, as a sheet of their own
abbrev pub part_of : ℕ → ℕ → Sheet → Sheet
part_of a b s = sheet (part s.windows a (b - a)) (within a b s.rules)
