use Rattle.std.proofs.Common.{◌≡◌, ◌-◌, ◌*◌, ◌≤◌, length, take, sym, ap, ◌∙◌, subst, arith, rules}
use Rattle.std.proofs.lemmas.List.{length-take-le, places}
use Rattle.store.specs.Pairs.{paired}
use Rattle.nvalue.proofs.Choices.{choice_length}
use Rattle.count.specs.Asked.{MostAnswer}
use Rattle.count.proofs.Answered.{written, most_answered}
use Rattle.count.proofs.Violated.{runs_half}
use Rattle.count.proofs.most.GreatestCountQuestion.find.Goals as goal

pub slice_bounds-write_runs-end-2 : goal.slice_bounds-write_runs-end-2
slice_bounds-write_runs-end-2 c =
    let s = c.most_of-most.result.runs in
    let shown = c.most_of-most.ensures.shown in
    let half = runs_half _ _ _ _ shown in
    let many = length-take-le s c.most_of-most.new.runs (omega (arith, c.most_of-most.ensures.room)) in
    let each = choice_length c.args.season.windows.now c.most_of-most.new.days shown.choice in
    let fits : 2 * s ≤ length c.args.season.windows.now = omega arith in
    search (rules, places)

pub returns : goal.returns
returns c =
    let n = length c.args.season.windows.now in
    let s = c.most_of-most.result.runs in
    let was = c.args.answer.now in
    let days = c.most_of-most.new.days in
    let words = c.write_runs.new.words in
    let shown = c.most_of-most.ensures.shown in
    let each : length days ≡ n = choice_length c.args.season.windows.now days shown.choice in
    let many = length-take-le s c.most_of-most.new.runs (omega (arith, c.most_of-most.ensures.room)) in
    let z : s - 0 ≡ s = omega arith in
    let are : paired words ≡ take s c.most_of-most.new.runs = c.write_runs.ensures ∙ ap (λ k. take k c.most_of-most.new.runs) z in
    let half = runs_half _ _ _ _ shown in
    let long : length words ≡ 2 * s = search (rules, places) in
    subst (λ is. MostAnswer c.args.season.windows.now was is c.most_of-most.result.count s) (sym (written was days words n (2 * s) each))
    (most_answered c.args.season.windows.now _ c.most_of-most.result.count s was days words each shown many are long)
