use Rattle.std.proofs.Common.{◌≡◌, ◌+◌, ◌*◌, ◌++◌, length, take}
use Rattle.bench_calls.specs.Planned.{rules_in}
use Rattle.bench_calls.proofs.planning.read_rules.Given as goal

abbrev pub invariant-loop-row : goal.invariant-loop-row
invariant-loop-row l = record {
  read : rules_in l.words ≡ take l.row-index l.rows ++ rules_in l.rest;
  left : length l.rest + 4 * l.row-index ≡ length l.words;
}
