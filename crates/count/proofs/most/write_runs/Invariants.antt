use Rattle.std.proofs.Common.{◌≡◌, take}
use Rattle.store.specs.Pairs.{paired}
use Rattle.count.proofs.most.write_runs.Given as goal

abbrev pub invariant-loop-i : goal.invariant-loop-i
invariant-loop-i l = take l.i (paired l.words) ≡ take l.i l.runs
