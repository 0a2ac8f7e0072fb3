-- What a problem is about: the sheet of the windows and the rules that are in use.
use Rattle.std.specs.Prelude.{ℕ, take}
use Rattle.rules.specs.Sheets.{Sheet, sheet}
use Rattle.propagation.specs.declared.problem.Problem.{Problem}

abbrev pub lots_in : Problem → ℕ
lots_in problem = problem.lots

abbrev pub sheet_in : Problem → Sheet
sheet_in problem = sheet (take problem.lots problem.windows) (take problem.rules problem.rows)
