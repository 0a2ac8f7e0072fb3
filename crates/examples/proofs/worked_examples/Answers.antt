use Rattle.std.proofs.Common.{refl}
use Rattle.examples.specs.Table.{table}
use Rattle.examples.proofs.Claims.{all_shown}
use Rattle.examples.proofs.worked_examples.Goals as goal

-- the checker tries every choice of every example
pub returns : goal.returns
unfolding lib.Count.count_trailing_zeros lib.Count.count_leading_zeros
returns c = all_shown table refl
