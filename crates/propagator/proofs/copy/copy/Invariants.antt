use Rattle.std.proofs.Common.{◌≡◌, take}
use Rattle.propagator.proofs.copy.copy.Given as goal

abbrev pub invariant-loop-place : goal.invariant-loop-place
invariant-loop-place g l = take l.place l.room ≡ take l.place l.items
