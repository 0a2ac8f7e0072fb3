-- The points before a day stand first, so where they end is the first one at or past it.
use Rattle.std.proofs.Common.{ℕ, ◌<◌, ltb, length, get_or, arith, of_calls, ltb-false}
use Rattle.std.proofs.lemmas.List.Sorted.{IsNonDecreasingBy-from_default, IsPartitionPoint-from_clause, IsPartitionedBy-ltb}
use Rattle.std.proofs.lemmas.Bool.Decides.{Decides-ltb}
use Rattle.propagator.proofs.Rungs.{ascends_le}
use Rattle.propagator.proofs.fewest_hull.first_from.Goals as goal

pub returns : goal.returns
returns c =
    let ps = c.args.points.now in
    let low = c.args.low in
    let up = ascends_le (λ j. get_or ps j 0) (length ps) c.requires.ascending in
    let rises = IsNonDecreasingBy-from_default (λ p. p) ps 0 up in
    let parted = IsPartitionPoint-from_clause (λ p. ltb p low) ps c.partition_point.result c.partition_point.ensures.partitioned (IsPartitionedBy-ltb (λ p. p) ps low rises) (search of_calls) in
    let before : (j : ℕ) → j < c.partition_point.result → get_or ps j 0 < low = λ j h. (Decides-ltb (get_or ps j 0) low).0 (parted.0 j 0 (omega arith) h) in
    let r = c.requires.reached in
    let there : c.partition_point.result < length ps = grind (arith, before r.0, r.1, r.2, c.partition_point.ensures.bound) in
    let not_before = ltb-false (get_or ps c.partition_point.result 0) low (parted.1 c.partition_point.result 0 (omega arith) there) in
    record { there = there; before = before; reached = not_before }
