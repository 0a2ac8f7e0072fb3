use Rattle.std.proofs.Common.{◌≡◌, ◌⊎◌, length, take, arith, inl, inr}
use Rattle.std.specs.Io.KnownBytes.{IsAtEnd}
use Rattle.std.proofs.lemmas.List.{length-take-le}
use Rattle.console.proofs.Filled.{reads_first}
use Rattle.console.proofs.reading.read_first.Goals as goal

pub returns-in-Ok : goal.returns-in-Ok
returns-in-Ok g c =
    let fill = c.fill-filled in
    let long = length-take-le fill.result.0 fill.new.room fill.ensures.bound in
    let end : (length (take fill.result.0 fill.new.room) ≡ 1289) ⊎ IsAtEnd (g.R.Read.remaining fill.new.input) = elim (rw c.in-Ok.is at fill.ensures.whole) [ inl full ↦ inl (omega (arith, full, long, c.told-room)) | inr none ↦ inr none ] in
    (fill.ensures.bound, reads_first 1289 _ _ _ (omega (arith, long, fill.ensures.bound, c.told-room)) end fill.ensures.taken)
