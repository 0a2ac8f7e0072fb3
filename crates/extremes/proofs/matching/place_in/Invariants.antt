-- After each turn the packing stands, and no run is written past the lots.
use Rattle.std.proofs.Common.{◌≡◌, drop, length}
use Rattle.extremes.proofs.Packing.{Packing}
use Rattle.extremes.proofs.matching.place_in.Given as goal

abbrev pub invariant-loop-place : goal.invariant-loop-place
invariant-loop-place l = record {
  packing : Packing l.season.windows.now l.order l.place-index l.taken l.days l.runs l.most;
  rest : drop (length l.season.windows.now) l.runs ≡ drop (length l.season.windows.now) l.initial.runs;
}
