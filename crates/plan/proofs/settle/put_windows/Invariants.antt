use Rattle.std.proofs.Common.{◌≡◌, ◌++◌, take, drop}
use Rattle.store.specs.Windows.{Onward}
use Rattle.plan.proofs.settle.put_windows.Given as goal

abbrev pub invariant-loop-lot : goal.invariant-loop-lot
invariant-loop-lot g l =
    (g.S.WindowStore.windows l.store ≡ take l.lot l.windows ++ drop l.lot (g.S.WindowStore.windows l.initial.store))
    × Onward (g.S.WindowStore.reached l.initial.store) (g.S.WindowStore.reached l.store) l.windows
    × (g.S.WindowStore.frame l.store ≡ g.S.WindowStore.frame l.initial.store)
