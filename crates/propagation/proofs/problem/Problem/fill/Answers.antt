use Rattle.std.proofs.Common.{◌≡◌, ◌-◌, take, drop, sym, ap, ◌∙◌, subst, rules}
use Rattle.std.specs.List.{AllByRecursion}
use Rattle.std.proofs.ByRecursion.{All-drop, All-take}
use Rattle.store.specs.Sound.{Sound}
use Rattle.rules.specs.Sheets.{Fits}
use Rattle.rules.specs.Parts.{within}
use Rattle.propagation.specs.Problems.{sheet_in}
use Rattle.propagation.proofs.Cutting.{within_fit}
use Rattle.propagation.proofs.problem.Problem.fill.Goals as goal

pub invariant_of-self-clause-sound : goal.invariant_of-self-clause-sound
invariant_of-self-clause-sound c =
    let ws = (sheet_in c.args.whole.now).windows in
    let a = c.args.start in
    let n = c.args.end - a in
    let e : take n c.copy_front.new.room ≡ take n (drop a ws) = search rules in
    subst (AllByRecursion Sound) (sym e) (All-take Sound n (drop a ws) (All-drop Sound a ws c.args.whole.now.sound))

pub invariant_of-self-clause-fit : goal.invariant_of-self-clause-fit
invariant_of-self-clause-fit c =
    let whole = c.args.whole.now in
    let e = c.copy_within-self.ensures.within ∙ ap (within c.args.start c.args.end) c.rows.ensures in
    subst (AllByRecursion (Fits (c.args.end - c.args.start))) (sym e) (within_fit c.args.start c.args.end whole.lots (sheet_in whole).rules whole.fit)
