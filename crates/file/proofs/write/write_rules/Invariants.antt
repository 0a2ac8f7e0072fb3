use Rattle.std.proofs.Common.{◌≡◌, ◌*◌, take}
use Rattle.file.specs.Format.{rules_bytes}
use Rattle.file.proofs.write.write_rules.Given as goal

abbrev pub invariant-loop-place : goal.invariant-loop-place
invariant-loop-place l = take (8 * l.place) l.bytes ≡ rules_bytes (take l.place l.rows)
