use Rattle.std.proofs.Common.{◌≡◌, ◌≤◌, length, take}
use Rattle.listing.specs.Text.{lines_from}
use Rattle.store.specs.Over.{over}
use Rattle.listing.proofs.list.write_lots.Given as goal

abbrev pub invariant-loop-lot : goal.invariant-loop-lot
invariant-loop-lot l =
    (l.end ≡ length (lines_from 0 (take l.lot l.days)))
    × (l.out ≡ over (lines_from 0 (take l.lot l.days)) l.initial.out)
    × (l.end ≤ length l.initial.out)
