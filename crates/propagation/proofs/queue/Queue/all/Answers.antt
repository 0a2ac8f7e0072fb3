use Rattle.std.proofs.Common.{true, replicate, inl, inr}
use Rattle.std.proofs.lemmas.List.{get_or_past, get_or-replicate}
use Rattle.std.proofs.lemmas.Bool.{cases_lt}
use Rattle.propagation.proofs.queue.Queue.all.Goals as goal

pub returns : goal.returns
returns c = λ k. elim (cases_lt k 33) [ inl h ↦ get_or-replicate 33 k true true h | inr h ↦ get_or_past (replicate 33 true) k true h ]
