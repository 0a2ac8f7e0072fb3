-- Replacing one day moves the count by at most one.
use Rattle.nvalue.proofs.Nvalue.{nvalue_set, nvalue_unset}
use Rattle.nvalue.proofs.laws.replacing_moves_by_one.Goals as goal

pub returns : goal.returns
returns c = λ ds i d. (nvalue_set ds i d, nvalue_unset ds i d)
