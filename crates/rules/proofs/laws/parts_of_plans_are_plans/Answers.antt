-- The days of a part of a plan are a plan of that part.
use Rattle.rules.proofs.Parts.{plan_part_lem}
use Rattle.rules.proofs.laws.parts_of_plans_are_plans.Goals as goal

pub returns : goal.returns
returns c = plan_part_lem
