-- Every count between those of two choices is the count of a choice.
use Rattle.nvalue.proofs.Choices.{counts_between}
use Rattle.nvalue.proofs.laws.counts_between_are_counts.Goals as goal

pub returns : goal.returns
returns c = counts_between
