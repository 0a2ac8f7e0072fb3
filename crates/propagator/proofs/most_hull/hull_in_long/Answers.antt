-- In a new room no day has a mate.
use Rattle.std.proofs.Common.{None}
use Rattle.extremes.proofs.Alike.{all_alike}
use Rattle.propagator.proofs.most_hull.hull_in_long.Goals as goal

pub hull_in-requires-clause-free : goal.hull_in-requires-clause-free
hull_in-requires-clause-free c = λ d. all_alike 10000 d None
