-- nvalue is the number of different values, and the only such number.
use Rattle.nvalue.proofs.Nvalue.{nvalue_counts_lem, nvalue_unique}
use Rattle.nvalue.proofs.laws.nvalue_counts.Goals as goal

pub returns : goal.returns
returns c = λ ds. (nvalue_counts_lem ds, nvalue_unique ds)
