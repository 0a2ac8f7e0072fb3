use Rattle.std.proofs.Common.{Ok, ap, ◌∙◌, subst, rules}
use Rattle.calendar.proofs.Periods.{period_layer, cut_fits}
use Rattle.calendar.proofs.Layers.{layer_trims, layer_reach}
use Rattle.store.proofs.Verdicts.{moving, refused}
use Rattle.store.specs.Windows.{Trims}
use Rattle.calendar.proofs.period.layer.PeriodWindowStore.trim.Goals as goal

pub returns-in_err-judge-clause-trims : goal.returns-in_err-judge-clause-trims
returns-in_err-judge-clause-trims g c = let t = refused _ _ _ _ _ c.window.ensures.value c.judge.ensures c.in_err-judge.field-0.0 c.in_err-judge.was in search rules

pub days_below-requires : goal.days_below-requires
days_below-requires g c =
    let m = moving _ _ _ _ _ c.window.ensures.value c.judge.ensures c.in-Moves.field-0 (c.in_ok-judge.was ∙ ap Ok c.in-Moves.is) in
    cut_fits c.args.self.now.length.days c.args.self.now.length.some _ c.args.place c.args.periods _ c.window.ensures.value c.window.ensures.word m

pub returns-in-Moves : goal.returns-in-Moves
returns-in-Moves g c =
    let days = c.args.self.now.length.days in
    let ws = g.S.WindowStore.windows c.args.self.now.below in
    let is = g.S.WindowStore.windows c.trim.new.self in
    let m = moving _ _ _ _ _ c.window.ensures.value c.judge.ensures c.in-Moves.field-0 (c.in_ok-judge.was ∙ ap Ok c.in-Moves.is) in
    let t = subst (λ ps. Trims ws c.args.place ps c.trim.result is) c.days_below.ensures c.trim.ensures.trims in
    record {
      trims = layer_trims _ _ _ (period_layer days c.args.self.now.length.some) ws is c.args.place c.args.periods _ m t;
      reach = layer_reach _ _ _ (period_layer days c.args.self.now.length.some) ws is c.args.place c.args.periods _ m t _ _ c.trim.ensures.reach;
      framed = ap (λ rest. (days, rest)) c.trim.ensures.framed;
    }
