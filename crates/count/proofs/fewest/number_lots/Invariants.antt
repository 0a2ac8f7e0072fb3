use Rattle.std.proofs.Common.{◌≡◌, ◌+◌, map, take}
use Rattle.count.proofs.fewest.number_lots.Given as goal

abbrev pub invariant-loop-i : goal.invariant-loop-i
invariant-loop-i l = take l.i l.numbers ≡ map (λ p. l.first + p) (take l.i l.places)
