use Rattle.std.proofs.Common.{sym, ap, ◌∙◌, subst}
use Rattle.std.specs.List.{AllByRecursion}
use Rattle.std.proofs.ByRecursion.{All-set}
use Rattle.std.proofs.lemmas.List.{length-set}
use Rattle.rules.specs.Sheets.{Fits, rule_at, sheet}
use Rattle.propagation.specs.Problems.{sheet_in}
use Rattle.rules.specs.Sheets.{recounted}
use Rattle.propagation.proofs.Problems.{rows_recounted, rule_fits}
use Rattle.propagation.proofs.problem.Problem.recount.Goals as goal

pub invariant_of-self-clause-fit : goal.invariant_of-self-clause-fit
invariant_of-self-clause-fit c =
    let p = c.args.self.now in
    let k = c.args.number in
    let count = c.args.count in
    let rules = (sheet_in p).rules in
    let f = rule_fits p k c.requires.there in
    subst (AllByRecursion (Fits p.lots)) (sym (rows_recounted p k _ _ count.floor count.ceiling c.requires.there c.floor.ensures c.ceiling.ensures))
    (All-set (Fits p.lots) rules k (recounted (rule_at rules k) count.floor count.ceiling) (f.0, (count.ordered, c.requires.few)) p.fit)

pub invariant_of-self-clause-rows_room : goal.invariant_of-self-clause-rows_room
invariant_of-self-clause-rows_room c = let p = c.args.self.now in length-set p.rows c.args.number _ ∙ p.rows_room

pub returns-clause-sheet : goal.returns-clause-sheet
returns-clause-sheet c =
    ap (sheet (sheet_in c.args.self.now).windows) (rows_recounted c.args.self.now c.args.number _ _ _ _ c.requires.there c.floor.ensures c.ceiling.ensures)
