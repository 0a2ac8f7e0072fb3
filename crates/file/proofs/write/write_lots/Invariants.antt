use Rattle.std.proofs.Common.{◌≡◌, ◌*◌, take}
use Rattle.file.specs.Format.{lots_bytes}
use Rattle.file.proofs.write.write_lots.Given as goal

abbrev pub invariant-loop-place : goal.invariant-loop-place
invariant-loop-place l = take (4 * l.place) l.bytes ≡ lots_bytes (take l.place l.windows)
