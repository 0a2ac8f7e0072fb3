-- The reach so far stays among the days that there is room for; each turn sees one more.
use Rattle.std.proofs.Common.{◌-◌, ◌<◌, length}
use Rattle.propagator.proofs.Reaching.{Reaching}
use Rattle.propagator.proofs.shut.shut_out.Given as goal

abbrev pub invariant-loop-next : goal.invariant-loop-next
invariant-loop-next l =
    Reaching l.matching.season.windows.now l.matching.days.now l.matching.spare.now l.lot l.day l.reach × (l.reach.high < length l.matching.mates.now)

abbrev pub decreases-loop-next : goal.decreases-loop-next
decreases-loop-next l = 10000 - (l.reach.to - l.reach.from)
