-- Stretches: so many lots in a row.
use Rattle.std.specs.Prelude.{ℕ, ◌+◌, ◌<◌, ◌≤◌}
use Rattle.nvalue.specs.declared.stretch.Stretch.{Stretch}

-- a stretch has a lot, and ends with the last of so many lots at the latest
abbrev pub LiesWithin : ℕ → Stretch → Type 0
LiesWithin lots s = (1 ≤ s.length) × (s.first + s.length ≤ lots)

-- a lot is one of the stretch
abbrev pub Over : Stretch → ℕ → Type 0
Over s lot = (s.first ≤ lot) × (lot < s.first + s.length)
