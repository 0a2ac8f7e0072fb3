use Rattle.std.proofs.Common.{◌≡◌, take, drop}
use Rattle.store.specs.Windows.{Onward}
use Rattle.plan.specs.Calls.{Runs, state}
use Rattle.plan.proofs.run.make_calls.Given as goal

abbrev pub invariant-loop-number : goal.invariant-loop-number
invariant-loop-number g l =
    Runs l.slip.lots l.slip.rules (take l.number l.calls) (state (g.S.WindowStore.windows l.initial.store) l.initial.book l.initial.answer l.initial.work) (take l.number l.outcomes) (state (g.S.WindowStore.windows l.store) l.book l.answer l.work)
    × (drop l.number l.outcomes ≡ drop l.number l.initial.outcomes)
    × Onward (g.S.WindowStore.reached l.initial.store) (g.S.WindowStore.reached l.store) (g.S.WindowStore.windows l.store)
    × (g.S.WindowStore.frame l.store ≡ g.S.WindowStore.frame l.initial.store)
