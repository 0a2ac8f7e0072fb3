use Rattle.std.proofs.Common.{◌≤◌, length, take}
use Rattle.std.specs.Io.KnownBytes.{Appends}
use Rattle.console.proofs.writing.send.Given as goal

abbrev pub invariant-writes : goal.invariant-writes
invariant-writes g l = (l.sent ≤ length l.text) × Appends (g.W.Write.contents l.fn.output) (g.W.Write.contents l.output) (take l.sent l.text)
