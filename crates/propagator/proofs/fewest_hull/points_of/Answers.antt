-- The points are the last days of the witnesses that `serve` finds.
use Rattle.std.proofs.Common.{◌≡◌, ◌-◌, ◌<◌, length, take, sym, ap, ◌∙◌, subst, arith, rules}
use Rattle.std.specs.List.{AllByRecursion}
use Rattle.std.proofs.lemmas.List.{length-append, length-map, places, take_at}
use Rattle.extremes.specs.Stabbing.{lasts, StabbingPoints}
use Rattle.propagator.proofs.fewest_hull.points_of.Goals as goal

pub last_days-requires : goal.last_days-requires
last_days-requires c =
    let m = c.serve-count.result in
    let z : m - 0 ≡ m = omega arith in
    record {
      there = subst (λ k. AllByRecursion (λ lot. lot < length c.args.season.windows.now) (take k c.serve-count.new.lots)) (sym z) c.serve-count.ensures.shown.there;
      each = search (rules, places);
    }

pub returns : goal.returns
returns c =
    let m = c.serve-count.result in
    let ws = c.args.season.windows.now in
    let days = c.last_days.new.days in
    let z : m - 0 ≡ m = omega arith in
    let are : days ≡ lasts ws (take m c.serve-count.new.lots) = c.last_days.ensures ∙ ap (λ k. lasts ws (take k c.serve-count.new.lots)) z in
    let many : length days ≡ m = ap length are ∙ length-map _ _ ∙ c.serve-count.ensures.shown.many in
    record {
      points = subst (StabbingPoints ws) (sym (take_at days _ m many ∙ are)) c.serve-count.ensures.points;
      few = simp length-append (omega arith);
      least = record {
        reached = (c.serve-count.new.days, c.serve-count.ensures.shown.choice, c.serve-count.ensures.shown.count);
        least = c.serve-count.ensures.shown.least;
      };
    }
