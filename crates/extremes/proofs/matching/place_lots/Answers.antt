-- In a new room no day is taken.
use Rattle.std.proofs.Common.{false}
use Rattle.extremes.proofs.Alike.{all_alike}
use Rattle.extremes.proofs.matching.place_lots.Goals as goal

pub place_in-requires-clause-free : goal.place_in-requires-clause-free
place_in-requires-clause-free c = λ d. all_alike 512 d false

pub place_in-requires-else-end_before-clause-free : goal.place_in-requires-else-end_before-clause-free
place_in-requires-else-end_before-clause-free c = λ d. all_alike 10000 d false
