use Rattle.file.proofs.Again.{written_again}
use Rattle.file.proofs.laws.written_as_it_was_read.Goals as goal

pub returns : goal.returns
returns c = written_again
