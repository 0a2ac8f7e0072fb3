use Rattle.std.proofs.Common.{◌≡◌, eqb, ◌&&◌, Decides, arith}
use Rattle.std.proofs.lemmas.Bool.Decides.{nat_tests}
use Rattle.std.proofs.lemmas.Slice.Eq.{slice_eq-Decides}
use Rattle.rules.specs.declared.row.Row.{Row}
use Rattle.answers.proofs.answer.same_rules.Goals as goal

-- two rules are the same where their stretches and their count windows are
row_Decides : (a b : Row)
    → Decides ((eqb a.stretch.first b.stretch.first && eqb a.stretch.length b.stretch.length)
    && (eqb a.floor b.floor && eqb a.ceiling b.ceiling)) (a ≡ b)
row_Decides a b = grind (arith, nat_tests)

pub returns : goal.returns
returns c = slice_eq-Decides row_Decides _ _ c.eq.result c.eq.ensures
