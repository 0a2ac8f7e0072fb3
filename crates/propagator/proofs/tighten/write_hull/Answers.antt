use Rattle.std.proofs.Common.{length, sym, ◌∙◌, subst, inl, inr, arith}
use Rattle.propagator.specs.Tight.{Hull}
use Rattle.propagator.proofs.Tightened.{at_ceiling, at_floor, stays}
use Rattle.propagator.proofs.tighten.write_hull.Goals as goal

pub returns-then-least-most : goal.returns-then-least-most
returns-then-least-most c =
    subst (Hull _ _) (sym c.copy.ensures) (stays _ (length c.args.points.now) c.args.most _ _ c.requires.least c.requires.most c.args.count.ordered (inr c.if-least-most.true) c.requires.reached c.requires.within c.args.season.sound)

pub returns-then-ceiling-least : goal.returns-then-ceiling-least
returns-then-ceiling-least c =
    at_ceiling _ (length c.args.points.now) c.args.most _ _ c.requires.least c.requires.most c.args.count.ordered (sym c.ceiling.ensures ∙ c.if-ceiling-least.true) _ c.fewest_hull.ensures

pub returns-then-floor-most : goal.returns-then-floor-most
returns-then-floor-most c =
    at_floor _ (length c.args.points.now) c.args.most _ _ c.requires.least c.requires.most c.args.count.ordered (sym c.floor.ensures ∙ c.if-floor-most.true) _ c.most_hull.ensures

pub returns-else-floor-most : goal.returns-else-floor-most
returns-else-floor-most c =
    subst (Hull _ _) (sym c.copy-else-floor-most.ensures) (
    stays _ (length c.args.points.now) c.args.most _ _ c.requires.least c.requires.most c.args.count.ordered
    (inl (omega (arith, c.requires.reached, c.if-ceiling-least.false, c.ceiling.ensures), omega (arith, c.requires.within, c.if-floor-most.false, c.floor.ensures)))
    c.requires.reached c.requires.within c.args.season.sound)
