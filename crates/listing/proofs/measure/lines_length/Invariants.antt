use Rattle.std.proofs.Common.{◌≡◌, ◌*◌, ◌≤◌, length, take}
use Rattle.listing.specs.Text.{lines_from}
use Rattle.listing.proofs.measure.lines_length.Given as goal

abbrev pub invariant-loop-lot : goal.invariant-loop-lot
invariant-loop-lot l = (l.total ≡ length (lines_from 0 (take l.lot l.days))) × (l.total ≤ 50 * l.lot)
