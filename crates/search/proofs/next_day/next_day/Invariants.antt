use Rattle.std.proofs.Common.{ℕ, ◌<◌}
use Rattle.store.specs.Windows.{window_at}
use Rattle.search.specs.Search.{Uncut}
use Rattle.search.proofs.next_day.next_day.Given as goal

abbrev pub invariant-loop-w : goal.invariant-loop-w
invariant-loop-w l = (l.day < l.next) × ((k : ℕ) → k < l.w-index → Uncut l.day l.next (window_at l.windows k))
