use Rattle.std.proofs.Common.{Ok, ap, ◌∙◌, subst, rules}
use Rattle.calendar.proofs.Dispatching.{dispatch_layer}
use Rattle.calendar.proofs.Layers.{layer_trims, layer_reach}
use Rattle.store.proofs.Verdicts.{moving, refused}
use Rattle.store.specs.Windows.{Trims}
use Rattle.calendar.proofs.dispatch.DispatchWindowStore.trim.Goals as goal

pub returns-in_err-judge-clause-trims : goal.returns-in_err-judge-clause-trims
returns-in_err-judge-clause-trims g c = let t = refused _ _ _ _ _ c.window.ensures c.judge.ensures c.in_err-judge.field-0.0 c.in_err-judge.was in search rules

pub returns-in-Moves : goal.returns-in-Moves
returns-in-Moves g c =
    let last = c.args.self.now.last in
    let ws = g.S.WindowStore.windows c.args.self.now.below in
    let is = g.S.WindowStore.windows c.trim.new.self in
    let m = moving _ _ _ _ _ c.window.ensures c.judge.ensures c.in-Moves.field-0 (c.in_ok-judge.was ∙ ap Ok c.in-Moves.is) in
    let t = subst (λ days. Trims ws c.args.place days c.trim.result is) c.days_below.ensures c.trim.ensures.trims in
    record {
      trims = layer_trims _ _ _ (dispatch_layer last) ws is c.args.place c.args.days _ m t;
      reach = layer_reach _ _ _ (dispatch_layer last) ws is c.args.place c.args.days _ m t _ _ c.trim.ensures.reach;
      framed = ap (λ rest. (last, rest)) c.trim.ensures.framed;
    }
