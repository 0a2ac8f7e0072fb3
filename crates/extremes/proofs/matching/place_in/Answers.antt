-- Each turn keeps the packing, and the packing of all lots shows the greatest count.
use Rattle.std.proofs.Common.{◌≤◌, length, refl, ◌∙◌, arith, rules}
use Rattle.std.proofs.ByRecursion.{All-get_or}
use Rattle.store.specs.Windows.{window}
use Rattle.store.specs.Sound.{Sound}
use Rattle.extremes.proofs.Greatest.{packing_shows}
use Rattle.extremes.proofs.Orders.{length_order}
use Rattle.extremes.proofs.Packed.{names_lot}
use Rattle.extremes.proofs.Packing.{packing_none, packing_more, packing_rest}
use Rattle.extremes.proofs.matching.place_in.Goals as goal

pub loop-place-init : goal.loop-place-init
loop-place-init c = record { packing = packing_none _ _ _ _ _ c.requires.free c.requires.ends; rest = refl }

pub offset_bounds-season-place : goal.offset_bounds-season-place
offset_bounds-season-place c = let lot = names_lot _ _ c.requires.order.shuffled c.loop-place.place-index (omega arith) in search rules

pub bounds-season-place : goal.bounds-season-place
bounds-season-place c = names_lot _ _ c.requires.order.shuffled c.loop-place.place-index (omega arith)

pub place_lot-requires : goal.place_lot-requires
place_lot-requires c =
    let p = c.loop-place.invariant.packing in
    let n = length_order _ _ c.requires.order.shuffled in
    record {
      ends = p.ends _ (names_lot _ _ c.requires.order.shuffled c.loop-place.place-index (omega arith));
      sound = All-get_or Sound c.args.season.windows.now _ (window 0 0) (names_lot _ _ c.requires.order.shuffled c.loop-place.place-index (omega arith)) c.args.season.sound;
      room = omega (arith, p.room);
      few = omega (arith, p.few);
    }

pub offset_bounds-days-place : goal.offset_bounds-days-place
offset_bounds-days-place c = let lot = names_lot _ _ c.requires.order.shuffled c.loop-place.place-index (omega arith) in search rules

pub bounds-days-place : goal.bounds-days-place
bounds-days-place c = let lot = names_lot _ _ c.requires.order.shuffled c.loop-place.place-index (omega arith) in search rules

pub loop-place-preserved : goal.loop-place-preserved
loop-place-preserved c =
    let n = length_order _ _ c.requires.order.shuffled in
    record {
      packing =
          packing_more _ _ c.requires.order.shuffled c.requires.order.rises c.args.season.sound _ _ _ _ _ c.loop-place.invariant.packing (omega arith) (omega arith) (omega arith) _ _ _ _ c.place_lot.ensures;
      rest =
          packing_rest _ _ c.requires.order.shuffled c.requires.order.rises c.args.season.sound _ _ _ _ _ c.loop-place.invariant.packing (omega arith) (omega arith) (omega arith) _ _ _ _ c.place_lot.ensures
          ∙ c.loop-place.invariant.rest;
    }

pub returns : goal.returns
returns c =
    let p = c.loop-place.invariant.packing in
    let n = length_order _ _ c.requires.order.shuffled in
    let room : c.loop-place.most.runs ≤ length c.loop-place.runs = omega (arith, p.room) in
    record {
      shown = packing_shows _ _ c.requires.order.shuffled _ _ _ _ _ p (omega arith) (omega arith) room;
      room = omega (arith, p.room);
      rest = c.loop-place.invariant.rest;
    }
