use Rattle.plan.proofs.Runs.{runs_left}
use Rattle.plan.proofs.laws.runs_leave_plans.Goals as goal

pub returns : goal.returns
returns c = runs_left
