-- Violated runs that share no day bound the count above.
use Rattle.nvalue.proofs.Bounds.{violated_bound}
use Rattle.nvalue.proofs.laws.violated_runs_bound_above.Goals as goal

pub returns : goal.returns
returns c = violated_bound
