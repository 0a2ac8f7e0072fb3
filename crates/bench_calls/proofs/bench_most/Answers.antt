use Rattle.std.proofs.Common.{rules}
use Rattle.bench_calls.proofs.bench_most.Goals as goal

pub returns-clause-asked : goal.returns-clause-asked
returns-clause-asked c = (c.most.result, rw c.new.ensures.holds at c.most.ensures.asked, search rules)
