use Rattle.std.proofs.Common.{◌+◌, ◌<◌, [], ◌∷◌, ◌++◌, map, get_or, sym, ap, ◌∙◌, arith, rules}
use Rattle.std.proofs.ByRecursion.{All-get_or}
use Rattle.std.proofs.lemmas.List.{map_more, take_all, take_more_set}
use Rattle.count.proofs.fewest.number_lots.Goals as goal

pub overflow_add-numbers : goal.overflow_add-numbers
overflow_add-numbers c =
    let small = All-get_or (λ p. p < 257) c.args.places.now c.loop-i.i 0 (omega arith) c.requires.small in
    let within = c.requires.within in
    search rules

pub loop-i-preserved : goal.loop-i-preserved
loop-i-preserved c =
    take_more_set c.loop-i.numbers c.loop-i.i (c.args.first + get_or c.args.places.now c.loop-i.i 0) (omega (arith, c.requires.each))
    ∙ ap (λ xs. xs ++ (c.args.first + get_or c.args.places.now c.loop-i.i 0) ∷ []) c.loop-i.invariant
    ∙ sym (map_more (λ p. c.args.first + p) c.args.places.now c.loop-i.i 0 (omega arith))

pub returns : goal.returns
returns c =
    let i = c.loop-i.i in
    sym (take_all i c.loop-i.numbers (omega (arith, c.requires.each)))
    ∙ c.loop-i.invariant
    ∙ ap (map (λ p. c.args.first + p)) (take_all i c.args.places.now (omega arith))
