use Rattle.std.proofs.Common.{◌≡◌, ◌+◌, ◌-◌, ◌<◌, map, length, take, sym, ap, ◌∙◌, subst, arith, rules}
use Rattle.std.specs.List.{AllByRecursion}
use Rattle.std.proofs.ByRecursion.{All-weaker}
use Rattle.std.proofs.lemmas.List.{length-map, places}
use Rattle.nvalue.proofs.Choices.{choice_length}
use Rattle.count.specs.Asked.{FewestAnswer}
use Rattle.count.proofs.Answered.{written, fewest_answered}
use Rattle.count.proofs.fewest.LeastCountQuestion.find.Goals as goal

pub number_lots-requires : goal.number_lots-requires
number_lots-requires c =
    let s = c.fewest_of-count.ensures.shown in
    let z : c.fewest_of-count.result - 0 ≡ c.fewest_of-count.result = omega arith in
    record {
      each = search (rules, places);
      small = All-weaker (λ p. p < length c.args.season.windows.now) (λ p. p < 257) (λ p h. omega (arith, c.args.season.few)) _
          (subst (λ k. AllByRecursion (λ p. p < length c.args.season.windows.now) (take k c.fewest_of-count.new.lots)) (sym z) s.there);
      within = c.requires.within;
    }

pub returns : goal.returns
returns c =
    let n = length c.args.season.windows.now in
    let m = c.fewest_of-count.result in
    let was = c.args.answer.now in
    let days = c.fewest_of-count.new.days in
    let numbers = c.number_lots.new.numbers in
    let shown = c.fewest_of-count.ensures.shown in
    let each : length days ≡ n = choice_length c.args.season.windows.now days shown.choice in
    let z : m - 0 ≡ m = omega arith in
    let are : numbers ≡ map (λ p. c.args.first + p) (take m c.fewest_of-count.new.lots) =
    c.number_lots.ensures ∙ ap (λ k. map (λ p. c.args.first + p) (take k c.fewest_of-count.new.lots)) z in
    let many : length numbers ≡ m = ap length are ∙ length-map _ _ ∙ shown.many in
    subst (λ is. FewestAnswer c.args.season.windows.now c.args.first was is m) (sym (written was days numbers n m each))
    (fewest_answered c.args.season.windows.now c.args.first m was days _ numbers each shown are many)
