-- The lots served have their points, and no witness is written past the count.
use Rattle.std.proofs.Common.{◌≡◌, drop}
use Rattle.extremes.proofs.Stabbed.{Pointed}
use Rattle.extremes.proofs.stabbing.serve.Given as goal

abbrev pub invariant-loop-high : goal.invariant-loop-high
invariant-loop-high l = record {
  pointed : Pointed l.season.windows.now l.order l.days l.lots l.high-index l.count l.point;
  rest : drop l.count l.lots ≡ drop l.count l.initial.lots;
}
