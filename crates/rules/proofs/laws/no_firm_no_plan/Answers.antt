-- Where no firm windows lie inside there is no plan.
use Rattle.rules.proofs.Points.{no_firm_no_plan_lem}
use Rattle.rules.proofs.laws.no_firm_no_plan.Goals as goal

pub returns : goal.returns
returns c = no_firm_no_plan_lem
