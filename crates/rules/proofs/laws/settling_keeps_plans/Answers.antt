-- The greatest firm windows have just the plans that were there.
use Rattle.rules.proofs.Points.{settled_plans}
use Rattle.rules.proofs.laws.settling_keeps_plans.Goals as goal

pub returns : goal.returns
returns c = settled_plans
