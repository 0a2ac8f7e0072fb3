use Rattle.std.proofs.Common.{◌≡◌, ◌+◌, ◌++◌, [], ◌∷◌, take, sym, ap, ◌∙◌, subst, arith}
use Rattle.std.proofs.lemmas.List.{take_all, take_more, take_more_set}
use Rattle.store.specs.Pairs.{paired}
use Rattle.store.specs.Windows.{window, window_at}
use Rattle.store.proofs.Pairs.{paired_length, paired_set_both}
use Rattle.count.proofs.most.write_runs.Goals as goal

pub loop-i-preserved : goal.loop-i-preserved
loop-i-preserved c =
    let i = c.loop-i.i in
    let words = c.loop-i.words in
    let runs = c.args.runs.now in
    let run = window_at runs i in
    let n = paired_length words in
    subst (λ ws. take (i + 1) ws ≡ take (i + 1) runs) (sym (paired_set_both words i run.low run.high (omega (arith, c.requires))))
    (take_more_set (paired words) i run (omega (arith, c.requires)) ∙ ap (λ ws. ws ++ run ∷ []) c.loop-i.invariant ∙ sym (take_more runs i (window 0 0) (omega arith)))

pub returns : goal.returns
returns c =
    let i = c.loop-i.i in
    let n = paired_length c.loop-i.words in
    sym (take_all i (paired c.loop-i.words) (omega (arith, c.requires))) ∙ c.loop-i.invariant ∙ take_all i c.args.runs.now (omega arith)
