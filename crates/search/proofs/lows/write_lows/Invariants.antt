use Rattle.std.proofs.Common.{◌≡◌, map, take}
use Rattle.search.proofs.lows.write_lows.Given as goal

abbrev pub invariant-loop-lot : goal.invariant-loop-lot
invariant-loop-lot l = take l.lot l.days ≡ map (λ w. w.low) (take l.lot l.windows)
