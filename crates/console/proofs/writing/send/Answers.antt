use Rattle.std.proofs.Common.{take-add, arith}
use Rattle.std.proofs.KnownBytes.{Appends-kept, Appends-trans}
use Rattle.std.proofs.lemmas.List.{length-drop, take_rest}
use Rattle.console.proofs.writing.send.Goals as goal
use Rattle.console.proofs.writing.send.Goals.{in-Ok, in-Err+else-ne}

pub writes-preserved : goal.writes-preserved
writes-preserved g c =
    let inv = c.writes.invariant in
    let text = c.args.text.now in
    let sent = c.writes.sent in
    elim c.match-write.branch [
      | in-Ok w ↦
          let bound = rw (take_rest text sent) at w.in-Ok.ensures.bound in
          let more = rw (take_rest text sent) at w.in-Ok.ensures.bytes in
          rw (w.sent-is, take-add sent w.in-Ok.n text) (omega (arith, inv.0, bound, length-drop sent text), Appends-trans _ _ _ _ _ inv.1 more)
      | in-Err+else-ne w ↦ rw w.sent-is (inv.0, Appends-kept _ _ _ _ inv.1 w.in-Err.ensures.bytes)
    ]
