use Rattle.std.proofs.Common.{arith}
use Rattle.propagator.proofs.Tightened.{tightened}
use Rattle.propagator.proofs.tighten.tighten_in.Goals as goal

pub returns-clause-tightest : goal.returns-clause-tightest
returns-clause-tightest c =
    tightened c.args.season.windows.now c.write_hull.new.hull c.points_of-fewest.result c.best_of-most.result c.floor-floor.result c.ceiling-ceiling.result c.args.count.floor
    c.args.count.ceiling c.max.result c.min.result c.points_of-fewest.ensures.least c.best_of-most.ensures.most c.args.count.ordered c.floor-floor.ensures c.ceiling-ceiling.ensures
    c.max.ensures c.min.ensures _ (omega arith) (omega arith) (rw (c.floor-floor.ensures, c.ceiling-ceiling.ensures) c.write_hull.ensures) c.new.result c.new.ensures
