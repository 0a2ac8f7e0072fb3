use Rattle.std.proofs.Common.{arith, rules}
use Rattle.std.proofs.lemmas.List.{places}
use Rattle.guard.proofs.Cleared.{words_cleared}
use Rattle.count.proofs.question.ask.Goals as goal

pub returns-clause-cleared : goal.returns-clause-cleared
returns-clause-cleared g c =
    words_cleared c.args.work.now c.ask_on.new.words (omega arith) (search (rules, places)) c.ask_on.ensures.zero
