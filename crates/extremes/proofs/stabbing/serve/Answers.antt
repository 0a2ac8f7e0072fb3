use Rattle.std.proofs.Common.{◌≡◌, ◌<◌, ◌≤◌, length, subst, inl, inr, arith, rules}
use Rattle.extremes.proofs.Orders.{length_order}
use Rattle.extremes.proofs.Packed.{names_lot}
use Rattle.extremes.proofs.Stabbed.{Pointed, opens, joins, pointed_least, pointed_points, rest_more}
use Rattle.extremes.proofs.stabbing.serve.Goals as goal
use Rattle.extremes.proofs.stabbing.serve.Goals.{then-count-eq0, then-count-eq0-via-then-count-eq0, then-count-eq0-via-else-count-eq0+then-season-place, else-count-eq0+else-season-place}

pub loop-high-preserved : goal.loop-high-preserved
loop-high-preserved c =
    let n = length_order _ _ c.requires.order.shuffled in
    let days : length c.loop-high.days ≡ length c.args.season.windows.now = omega arith in
    let lots : length c.args.season.windows.now ≤ length c.loop-high.lots = omega arith in
    elim c.if-count-eq0.branch [
      | then-count-eq0 w ↦
          simp (w.point-is, w.lots-is, w.count-is)
          (record {
            pointed =
                opens _ _ _ _ _ _ _ c.loop-high.invariant.pointed c.args.season.sound c.requires.order.shuffled c.requires.order.rises (omega arith) days lots
                (elim w.then-count-eq0.branch [
                  | then-count-eq0-via-then-count-eq0 v ↦ inl v.if-count-eq0.true
                  | then-count-eq0-via-else-count-eq0+then-season-place v ↦
                      inr v.if-season-place.true
                ]);
            rest = rest_more c.loop-high.lots c.args.lots.now c.loop-high.count _ c.loop-high.invariant.rest;
          })
      | else-count-eq0+else-season-place w ↦
          let some : 0 < c.loop-high.count = omega (arith, w.if-count-eq0.false) in
          simp (w.point-is, w.lots-is, w.count-is)
          (record {
            pointed = joins _ _ _ _ _ _ _ c.loop-high.invariant.pointed c.args.season.sound c.requires.order.shuffled c.requires.order.rises (omega arith) days lots some w.if-season-place.false;
            rest = c.loop-high.invariant.rest;
          })
    ]

pub returns : goal.returns
returns c =
    let days : length c.loop-high.days ≡ length c.args.season.windows.now = omega arith in
    let lots : length c.args.season.windows.now ≤ length c.loop-high.lots = omega arith in
    let n = length_order _ _ c.requires.order.shuffled in
    let all : c.loop-high.high-index ≡ length c.args.season.windows.now = omega arith in
    let done : Pointed c.args.season.windows.now c.args.order.now c.loop-high.days c.loop-high.lots (length c.args.season.windows.now) c.loop-high.count c.loop-high.point =
    subst (λ t. Pointed c.args.season.windows.now c.args.order.now c.loop-high.days c.loop-high.lots t c.loop-high.count c.loop-high.point) all c.loop-high.invariant.pointed in
    record {
      shown = pointed_least _ _ _ _ _ _ done c.requires.order.shuffled days lots;
      room = done.few;
      rest = c.loop-high.invariant.rest;
      points = pointed_points _ _ _ _ _ _ done c.requires.order.shuffled days lots;
    }

pub offset_bounds-season-place : goal.offset_bounds-season-place
offset_bounds-season-place c = let lot = names_lot _ _ c.requires.order.shuffled c.loop-high.high-index (omega arith) in search rules

pub bounds-season-place : goal.bounds-season-place
bounds-season-place c = names_lot _ _ c.requires.order.shuffled c.loop-high.high-index (omega arith)

pub bounds-lots-count : goal.bounds-lots-count
bounds-lots-count c = omega (arith, c.loop-high.invariant.pointed.few, length_order _ _ c.requires.order.shuffled)

pub offset_bounds-days-place : goal.offset_bounds-days-place
offset_bounds-days-place c = let lot = names_lot _ _ c.requires.order.shuffled c.loop-high.high-index (omega arith) in search rules

pub bounds-days-place : goal.bounds-days-place
bounds-days-place c = let lot = names_lot _ _ c.requires.order.shuffled c.loop-high.high-index (omega arith) in search rules
