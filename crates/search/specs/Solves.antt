-- What a search for the earliest plan answers.
use Rattle.std.specs.Prelude.{List, ℕ, Result, MatchResult}
use Rattle.rules.specs.Sheets.{Sheet}
use Rattle.rules.specs.Plans.{Earliest, NoPlan, lows}
use Rattle.search.specs.declared.fault.Infeasible.{Infeasible}

-- the earliest plan of a sheet, or that it has none
abbrev pub Finds : Sheet → Result (Unit {0}) Infeasible → List ℕ → Type 0
Finds s r days = MatchResult r (λ _. Earliest s days) (λ _. NoPlan s)

-- the same, with the plan as the first day of each window that is left
abbrev pub Solves : Sheet → Result (Unit {0}) Infeasible → Sheet → Type 0
Solves s r t = Finds s r (lows t.windows)
