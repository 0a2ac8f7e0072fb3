use Rattle.std.proofs.Common.{rules}
use Rattle.bench_calls.proofs.bench_fewest.Goals as goal

pub returns-clause-asked : goal.returns-clause-asked
returns-clause-asked c = (c.fewest.result, rw c.new.ensures.holds at c.fewest.ensures.asked, search rules)
