use Rattle.std.proofs.Common.{◌≡◌, map, take}
use Rattle.extremes.specs.Mirror.{mirrored}
use Rattle.extremes.proofs.mirror.mirror_windows.Given as goal

abbrev pub invariant-loop-place : goal.invariant-loop-place
invariant-loop-place l = take l.place l.image ≡ map mirrored (take l.place l.windows)
