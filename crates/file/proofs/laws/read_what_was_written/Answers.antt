use Rattle.file.proofs.Again.{read_back}
use Rattle.file.proofs.laws.read_what_was_written.Goals as goal

pub returns : goal.returns
returns c = read_back
