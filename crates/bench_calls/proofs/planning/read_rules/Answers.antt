use Rattle.std.proofs.Common.{◌-◌, length, drop, arith}
use Rattle.std.proofs.lemmas.List.{length-drop, take_all}
use Rattle.bench_calls.proofs.Sheets.{read_more}
use Rattle.bench_calls.proofs.planning.read_rules.Goals as goal

pub loop-row-preserved : goal.loop-row-preserved
loop-row-preserved c =
    let rest = c.loop-row.rest.now in
    let four = c.in-len4-up.len_at_least in
    record {
      read = read_more c.args.words.now rest _ c.loop-row.rows c.loop-row.row-index (omega arith) four (take_all (length rest - 4) (drop 4 rest) (omega (arith, length-drop 4 rest))) c.loop-row.invariant.read;
      left = omega (arith, length-drop 4 rest, c.loop-row.invariant.left, four);
    }
