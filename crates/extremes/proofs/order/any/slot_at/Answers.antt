use Rattle.std.proofs.Common.{arith, rules}
use Rattle.extremes.proofs.Orders.{length_order, slot_there}
use Rattle.extremes.proofs.order.any.slot_at.Goals as goal

pub bounds-order-t : goal.bounds-order-t
bounds-order-t c = omega (arith, c.requires.within, length_order _ _ c.requires.shuffled)

pub returns : goal.returns
returns c = record { value = search rules; there = slot_there _ _ c.requires.shuffled c.args.t c.requires.within }
