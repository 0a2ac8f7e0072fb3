use Rattle.std.proofs.Common.{length, get_or, take, sym, ap, ◌∙◌, arith}
use Rattle.listing.specs.Text.{lines_from, lot_line}
use Rattle.store.specs.Over.{over}
use Rattle.listing.proofs.Lines.{lines_more, lines_more_length, lines_none, lines_room}
use Rattle.listing.proofs.Over.{lent_length, over_then}
use Rattle.listing.proofs.list.write_lots.Goals as goal

pub loop-lot-init : goal.loop-lot-init
loop-lot-init c = (sym (ap length (lines_none 0)), sym (ap (λ text. over text c.args.out.now) (lines_none 0)), omega arith)

pub write_lot-end-requires : goal.write_lot-end-requires
write_lot-end-requires c =
    omega (arith, c.requires, c.loop-lot.invariant.0, lines_room c.args.days.now c.loop-lot.lot (omega arith), lent_length c.loop-lot.out c.loop-lot.end)

pub loop-lot-preserved : goal.loop-lot-preserved
loop-lot-preserved c =
    let days = c.args.days.now in
    let lot = c.loop-lot.lot in
    let more = lines_more_length days lot (omega arith) in
    let room = lines_room days lot (omega arith) in (
      omega (arith, c.loop-lot.invariant.0, c.write_lot-end.ensures.long),
      over_then (lines_from 0 (take lot days)) (lot_line lot (get_or days lot 0)) c.args.out.now c.loop-lot.out c.write_lot-end.new.out c.loop-lot.end c.loop-lot.invariant.0 c.loop-lot.invariant.1 c.write_lot-end.ensures.written
          ∙ ap (λ text. over text c.args.out.now) (sym (lines_more days lot (omega arith))),
      omega (arith, c.loop-lot.invariant.0, c.write_lot-end.ensures.long),
    )
