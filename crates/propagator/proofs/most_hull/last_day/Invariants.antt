-- No best choice gives the lot a day past this one, which is not before its own.
use Rattle.std.proofs.Common.{◌-◌, ◌<◌, ◌≤◌, length, get_or}
use Rattle.store.specs.Windows.{window_at}
use Rattle.propagator.specs.Supports.{NoneAfter}
use Rattle.propagator.specs.Reach.{Facing}
use Rattle.propagator.proofs.most_hull.last_day.Given as goal

abbrev pub invariant-loop-day : goal.invariant-loop-day
invariant-loop-day l =
    (l.day ≤ (window_at l.matching.season.windows.now l.lot).high) × (get_or l.matching.days.now l.lot 0 ≤ l.day) × NoneAfter l.matching.season.windows.now l.lot l.day
    × Facing l.matching.season.windows.now l.matching.days.now l.matching.spare.now l.lot l.day l.reach × (l.reach.high < length l.matching.mates.now)

abbrev pub decreases-loop-day : goal.decreases-loop-day
decreases-loop-day l = l.day - get_or l.matching.days.now l.lot 0
