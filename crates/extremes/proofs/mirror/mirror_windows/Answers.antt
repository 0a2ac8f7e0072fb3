use Rattle.std.proofs.Common.{[], ◌∷◌, ◌++◌, map, sym, ap, ◌∙◌, ap₂, arith}
use Rattle.std.proofs.lemmas.List.{map_more, take_all, take_more_set}
use Rattle.store.specs.Windows.{window}
use Rattle.extremes.specs.Mirror.{mirrored}
use Rattle.extremes.proofs.mirror.mirror_windows.Goals as goal

pub loop-place-preserved : goal.loop-place-preserved
loop-place-preserved c =
    let i = c.loop-place.place in
    take_more_set c.loop-place.image i _ (omega (arith, c.requires))
    ∙ ap₂ (λ xs w. xs ++ w ∷ []) c.loop-place.invariant (ap₂ window c.flip_day.ensures c.flip_day-in-loop-place.ensures)
    ∙ sym (map_more mirrored c.args.windows.now i (window 0 0) (omega arith))

pub returns : goal.returns
returns c =
    let i = c.loop-place.place in
    sym (take_all i c.loop-place.image (omega (arith, c.requires))) ∙ c.loop-place.invariant ∙ ap (map mirrored) (take_all i c.args.windows.now (omega arith))
