use Rattle.std.proofs.Common.{◌≡◌, ◌+◌, ◌*◌, ◌++◌, length, take}
use Rattle.std.specs.List.{flat_map, AllByRecursion}
use Rattle.file.specs.Format.{rule_bytes, SmallRule}
use Rattle.file.proofs.rows.read_rows.Given as goal

abbrev pub invariant-loop-row : goal.invariant-loop-row
invariant-loop-row l = record {
  read : flat_map rule_bytes (take l.row-index l.rows) ++ l.rest ≡ l.bytes;
  small : AllByRecursion SmallRule (take l.row-index l.rows);
  left : length l.rest + 8 * l.row-index ≡ 8 * length l.rows;
}
