-- Windows that share no day bound the count below.
use Rattle.nvalue.proofs.Bounds.{disjoint_bound}
use Rattle.nvalue.proofs.laws.disjoint_windows_bound_below.Goals as goal

pub returns : goal.returns
returns c = disjoint_bound
