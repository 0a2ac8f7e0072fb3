use Rattle.std.proofs.Common.{arith}
use Rattle.nvalue.specs.Nvalue.{Counts}
use Rattle.propagator.proofs.Hulls.{hull_sound}
use Rattle.propagator.proofs.tighten.tighten.Goals as goal

pub invariant_of-season : goal.invariant_of-season
invariant_of-season c =
    let h = c.in_ok-count.ensures.tightest.hull in
    record {
      few = omega (arith, h.each, c.args.season.few);
      sound = hull_sound c.args.season.windows.now _ (Counts c.args.count.floor c.args.count.ceiling) h c.args.season.sound;
    }
