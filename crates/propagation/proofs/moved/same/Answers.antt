use Rattle.std.proofs.Common.{◌≡◌, eqb, ◌&&◌, Decides, ap, ap₂}
use Rattle.std.specs.Cmp.{first_so, second_so}
use Rattle.std.specs.Cmp.Derive.{both_true}
use Rattle.std.proofs.lemmas.Bool.Decides.{Decides-eqb}
use Rattle.std.proofs.lemmas.Slice.Eq.{slice_eq-Decides}
use Rattle.store.specs.declared.window.Window.{Window}
use Rattle.store.specs.Windows.{window}
use Rattle.propagation.proofs.moved.same.Goals as goal

-- two windows are the same where both ends are
window_Decides : (a b : Window) → Decides (eqb a.low b.low && eqb a.high b.high) (a ≡ b)
window_Decides a b = (
  λ e. ap₂ window ((Decides-eqb a.low b.low).0 (first_so _ _ e)) ((Decides-eqb a.high b.high).0 (second_so _ _ e)),
  λ e. both_true ((Decides-eqb a.low b.low).1 (ap (λ w. w.low) e)) ((Decides-eqb a.high b.high).1 (ap (λ w. w.high) e)),
)

pub returns : goal.returns
returns c = slice_eq-Decides window_Decides _ _ _ c.eq.ensures
