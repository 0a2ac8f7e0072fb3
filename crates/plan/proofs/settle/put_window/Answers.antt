use Rattle.store.proofs.Narrowing.{onward_trim}
use Rattle.plan.proofs.Putting.{put_both}
use Rattle.plan.proofs.settle.put_window.Goals as goal

pub returns-clause-moved : goal.returns-clause-moved
returns-clause-moved g c =
    put_both (g.S.WindowStore.windows c.args.store.now) (g.S.WindowStore.windows c.raise.new.self) (g.S.WindowStore.windows c.lower.new.self) c.args.lot c.args.window _ _
    c.requires.there c.requires.inside c.requires.sound c.raise.ensures.trims c.lower.ensures.trims

pub returns-clause-reach : goal.returns-clause-reach
returns-clause-reach g c =
    onward_trim (g.S.WindowStore.windows c.raise.new.self) (g.S.WindowStore.windows c.lower.new.self) _ _ _ c.lower.ensures.trims c.raise.ensures.reach c.lower.ensures.reach
