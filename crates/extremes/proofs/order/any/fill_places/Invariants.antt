use Rattle.std.proofs.Common.{◌≡◌, ℕ, ◌<◌, get_or}
use Rattle.extremes.specs.Orders.{slots}
use Rattle.extremes.proofs.order.any.fill_places.Given as goal

abbrev pub invariant-loop-place : goal.invariant-loop-place
invariant-loop-place l = (k : ℕ) → k < l.place → get_or l.order k (0, 0) ≡ get_or (slots 0 l.windows) k (0, 0)
