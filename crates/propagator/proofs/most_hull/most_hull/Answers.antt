-- In a new room no day has a mate.
use Rattle.std.proofs.Common.{None}
use Rattle.extremes.proofs.Alike.{all_alike}
use Rattle.propagator.proofs.most_hull.most_hull.Goals as goal

pub hull_in-requires-clause-free : goal.hull_in-requires-clause-free
hull_in-requires-clause-free c = λ d. all_alike 512 d None
