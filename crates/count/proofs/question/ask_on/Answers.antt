use Rattle.std.proofs.Common.{◌≡◌, length, take, sym, ap, ◌∙◌, subst}
use Rattle.std.proofs.lemmas.List.{take_at}
use Rattle.store.proofs.Checks.{checked_after}
use Rattle.nvalue.specs.Choices.{part}
use Rattle.nvalue.specs.Seasons.{lot_checks}
use Rattle.nvalue.proofs.Seasons.{passes_as}
use Rattle.count.specs.Asked.{AnsweredOf, stretch_checks}
use Rattle.count.specs.Faults.{of_season}
use Rattle.count.specs.declared.fault.CountFault.TheVariants.{TooManyLots, FaultyWindow}
use Rattle.count.proofs.question.ask_on.Goals as goal

pub returns-clause-asked : goal.returns-clause-asked
returns-clause-asked g c =
    let ws = g.S.WindowStore.windows c.args.store.now in
    let s = c.args.stretch in
    let was = c.args.answer.now in
    let is = c.ask_of.new.answer in
    let n = c.in_ok-lots.lots in
    let read = c.in_ok-lots.ensures.checked in
    let head : take n c.read_windows.new.room ≡ ws = ap (take n) (c.in_ok-lots.ensures.filled.few read.1.1) ∙ take_at ws _ n (sym read.1.0) in
    let asked = subst (λ vs. AnsweredOf g.Q.Question.Answers vs s was c.ask_of.result is) head c.ask_of.ensures in
    checked_after (lot_checks TooManyLots FaultyWindow ws) (stretch_checks (length ws) s (length was)) c.ask_of.result (λ m. g.Q.Question.Answers (part ws s.first s.length) s.first was is m) (is ≡ was)
    (passes_as of_season ws read.0) asked
