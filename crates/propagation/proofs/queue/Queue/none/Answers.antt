use Rattle.std.proofs.Common.{false, true}
use Rattle.std.proofs.lemmas.List.{get_or-replicate}
use Rattle.propagation.proofs.queue.Queue.none.Goals as goal

pub returns : goal.returns
returns c = λ k h. get_or-replicate 33 k false true h
