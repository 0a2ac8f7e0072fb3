use Rattle.std.proofs.Common.{subst}
use Rattle.std.specs.List.Sorted.{IsPermutation}
use Rattle.extremes.proofs.Orders.{sorted_rises}
use Rattle.extremes.proofs.order.any.order_by_high.Goals as goal

pub returns : goal.returns
returns c = record {
  shuffled = subst (λ slots. IsPermutation slots c.sort_unstable.new.self) c.fill_places.ensures c.sort_unstable.ensures.permutation;
  rises = sorted_rises c.sort_unstable.new.self c.sort_unstable.ensures.sorted;
}
