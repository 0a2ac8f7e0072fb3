-- Both searches find a point, since each window holds one, and each turn cuts one more window.
use Rattle.std.proofs.Common.{◌≡◌, length, sym, subst, arith}
use Rattle.propagator.specs.FirstSupport.{SomeFrom, FirstSupport}
use Rattle.extremes.proofs.Mirrored.{sound_mirrored}
use Rattle.propagator.proofs.Rungs.{image_reached, ends_more, ends_hull, points_ascend, points_reached, points_same}
use Rattle.propagator.proofs.fewest_hull.write_supports.Goals as goal

pub first_support-last-requires : goal.first_support-last-requires
first_support-last-requires c =
    let ws = c.args.season.windows.now in
    record {
      ascending = points_ascend _ _ (sound_mirrored ws c.args.season.sound) c.requires.image;
      reached = subst (λ d. SomeFrom d c.args.image_points.now) (sym c.flip_day.ensures) (image_reached ws _ c.args.season.sound c.requires.image c.loop-i.i c.loop-i-test.true);
      each = sym (points_same ws _ _ c.args.season.sound c.requires.points c.requires.image);
    }

pub first_support-requires : goal.first_support-requires
first_support-requires c =
    let ws = c.args.season.windows.now in
    record {
      ascending = points_ascend ws _ c.args.season.sound c.requires.points;
      reached = points_reached ws _ c.args.season.sound c.requires.points c.loop-i.i c.loop-i-test.true;
      each = points_same ws _ _ c.args.season.sound c.requires.points c.requires.image;
    }

pub loop-i-preserved : goal.loop-i-preserved
loop-i-preserved c =
    let ws = c.args.season.windows.now in
    ends_more ws c.loop-i.hull _ _ c.loop-i.i _ (omega (arith, c.requires.each)) c.loop-i.invariant
    (record {
      low = c.first_support.ensures;
      last = c.first_support-last.result;
      high = subst (λ d. FirstSupport d c.args.image_points.now c.args.points.now c.first_support-last.result) c.flip_day.ensures c.first_support-last.ensures;
      high_is = c.flip_day-in-loop-i.ensures;
    })

pub returns : goal.returns
returns c =
    let all : c.loop-i.i ≡ length c.args.season.windows.now = omega arith in
    ends_hull c.args.season.windows.now _ _ c.loop-i.hull c.args.season.sound c.requires.points c.requires.image (omega (arith, c.requires.each)) (λ i h. c.loop-i.invariant i (omega arith))
