-- The earliest plans of both sides of a cut join.
use Rattle.rules.proofs.Parts.{earliest_join}
use Rattle.rules.proofs.laws.earliest_plans_join.Goals as goal

pub returns : goal.returns
returns c = earliest_join
