use Rattle.std.proofs.Common.{length, sym, ap, arith}
use Rattle.listing.proofs.Lines.{lines_more_length, lines_none}
use Rattle.listing.proofs.measure.lines_length.Goals as goal

pub loop-lot-init : goal.loop-lot-init
loop-lot-init c = (sym (ap length (lines_none 0)), omega arith)

pub loop-lot-preserved : goal.loop-lot-preserved
loop-lot-preserved c = (omega (arith, c.loop-lot.invariant.0, c.lot_length-total.ensures.exact, lines_more_length c.args.days.now c.loop-lot.lot (omega arith)), omega arith)
