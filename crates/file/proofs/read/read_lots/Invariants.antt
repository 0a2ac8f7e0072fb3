use Rattle.std.proofs.Common.{◌*◌, take}
use Rattle.file.specs.Reads.{ReadLots}
use Rattle.file.proofs.read.read_lots.Given as goal

abbrev pub invariant-loop-lot : goal.invariant-loop-lot
invariant-loop-lot l = ReadLots (take (4 * l.lot) l.bytes) l.initial.words l.words
