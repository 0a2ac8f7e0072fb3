use Rattle.propagation.specs.Problems.{sheet_in}
use Rattle.search.specs.Search.{Open}
use Rattle.search.proofs.tightest.tightest.Given as goal

abbrev pub invariant-loop-lot : goal.invariant-loop-lot
invariant-loop-lot l = Open (sheet_in l.problem).windows l.best
