-- The lots passed have their windows.
use Rattle.std.proofs.Common.{ℕ, ◌<◌}
use Rattle.store.specs.Windows.{window_at}
use Rattle.propagator.specs.Supports.{BoundSupports}
use Rattle.propagator.proofs.most_hull.hull_in.Given as goal

abbrev pub invariant-loop-lot : goal.invariant-loop-lot
invariant-loop-lot l = (k : ℕ) → k < l.lot → BoundSupports l.season.windows.now k (window_at l.hull k)
