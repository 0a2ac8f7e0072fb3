-- The lots passed have their windows.
use Rattle.std.proofs.Common.{◌≡◌, take}
use Rattle.nvalue.proofs.season.reading.copy_windows.Given as goal

abbrev pub invariant-loop-lot : goal.invariant-loop-lot
invariant-loop-lot g l = take l.lot l.windows ≡ take l.lot (g.S.WindowStore.windows l.store)
