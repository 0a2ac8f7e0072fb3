-- What the calls so far promise.
use Rattle.std.proofs.Common.{◌≡◌}
use Rattle.store.specs.Windows.{Onward}
use Rattle.store_tests.proofs.clients.cut_all.Given as goal

abbrev pub invariant-loop-place : goal.invariant-loop-place
invariant-loop-place g l = record {
  reach : Onward (g.S.WindowStore.reached l.initial.store) (g.S.WindowStore.reached l.store) (g.S.WindowStore.windows l.store);
  framed : g.S.WindowStore.frame l.store ≡ g.S.WindowStore.frame l.initial.store;
}
