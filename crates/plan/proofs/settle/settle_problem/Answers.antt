use Rattle.plan.proofs.Settling.{settled_book}
use Rattle.propagation.specs.Problems.{sheet_in}
use Rattle.std.proofs.Common.{◌∙◌}
use Rattle.plan.proofs.settle.settle_problem.Goals as goal

pub returns-clause-settles : goal.returns-clause-settles
returns-clause-settles g c =
    let ws = g.S.WindowStore.windows c.args.store.now in
    let is = g.S.WindowStore.windows c.put_windows.new.store in
    let s = settled_book ws is c.args.book.now c.narrow_all.new.self c.rows.result.now c.narrow_all.result (sheet_in c.args.problem) (sheet_in c.propagate_all.new.problem)
    c.requires c.rows.ensures (c.put_windows.ensures.moved ∙ c.windows.ensures) c.in-Ok.ensures.propagates c.narrow_all.ensures in
    ((λ e h. h.0 _ s.1.firm s.1.inside, tt), s)
