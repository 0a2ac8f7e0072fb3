use Rattle.file.proofs.Again.{just_these}
use Rattle.file.proofs.laws.just_these_rules.Goals as goal

pub returns : goal.returns
returns c = just_these
