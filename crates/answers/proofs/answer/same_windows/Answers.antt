use Rattle.std.proofs.Common.{◌≡◌, eqb, ◌&&◌, Decides, arith}
use Rattle.std.proofs.lemmas.Bool.Decides.{nat_tests}
use Rattle.std.proofs.lemmas.Slice.Eq.{slice_eq-Decides}
use Rattle.store.specs.declared.window.Window.{Window}
use Rattle.answers.proofs.answer.same_windows.Goals as goal

-- two windows are the same where both ends are
window_Decides : (a b : Window) → Decides (eqb a.low b.low && eqb a.high b.high) (a ≡ b)
window_Decides a b = grind (arith, nat_tests)

pub returns : goal.returns
returns c = slice_eq-Decides window_Decides _ _ c.eq.result c.eq.ensures
