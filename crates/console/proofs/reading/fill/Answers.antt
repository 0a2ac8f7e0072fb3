use Rattle.std.proofs.Common.{◌-◌, length, arith, rules}
use Rattle.std.proofs.KnownBytes.{Consumes-kept, Consumes-trans}
use Rattle.std.proofs.lemmas.List.{places}
use Rattle.std.proofs.lemmas.Slice.{take-put_mid_below}
use Rattle.console.proofs.Filled.{filled_more}
use Rattle.console.proofs.reading.fill.Goals as goal
use Rattle.console.proofs.reading.fill.Goals.{in-Ok, in-Err+else-ne}

pub reads-preserved : goal.reads-preserved
reads-preserved g c =
    let inv = c.reads.invariant in
    let room = c.reads.room in
    let filled = c.reads.filled in
    elim c.match-read.branch [
      | in-Ok w ↦
          rw (w.filled-is, filled_more filled w.in-Ok.n (length room - filled) room c.read.new.buf inv.0 w.in-Ok.ensures.bound.0)
          (search (rules, places), Consumes-trans _ _ _ _ _ inv.1 w.in-Ok.ensures.bytes.0)
      | in-Err+else-ne w ↦
          rw (w.filled-is, take-put_mid_below filled (length room - filled) room c.read.new.buf filled (omega arith) inv.0)
          (search (rules, places), Consumes-kept _ _ _ _ inv.1 w.in-Err.ensures.bytes)
    ]
