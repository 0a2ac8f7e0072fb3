-- Each lot is one of the windows', and a turn writes one more last day.
use Rattle.std.proofs.Common.{◌<◌, [], ◌∷◌, ◌++◌, length, get_or, sym, ap, ◌∙◌, arith, rules}
use Rattle.std.proofs.ByRecursion.{All-get_or}
use Rattle.std.proofs.lemmas.List.{map_more, take_all, take_more_set}
use Rattle.store.specs.Windows.{window_at}
use Rattle.extremes.specs.Stabbing.{lasts}
use Rattle.propagator.proofs.fewest_hull.last_days.Goals as goal

pub bounds-windows-lot : goal.bounds-windows-lot
bounds-windows-lot c =
    let there = All-get_or (λ lot. lot < length c.args.windows.now) c.args.lots.now c.loop-i.i 0 (omega arith) c.requires.there in
    search rules

pub loop-i-preserved : goal.loop-i-preserved
loop-i-preserved c =
    let i = c.loop-i.i in
    let ws = c.args.windows.now in
    let lots = c.args.lots.now in
    take_more_set c.loop-i.days i _ (omega (arith, c.requires.each))
    ∙ ap (λ xs. xs ++ (window_at ws (get_or lots i 0)).high ∷ []) c.loop-i.invariant
    ∙ sym (map_more (λ lot. (window_at ws lot).high) lots i 0 (omega arith))

pub returns : goal.returns
returns c =
    let i = c.loop-i.i in
    sym (take_all i c.loop-i.days (omega (arith, c.requires.each)))
    ∙ c.loop-i.invariant
    ∙ ap (lasts c.args.windows.now) (take_all i c.args.lots.now (omega arith))
