use Rattle.std.proofs.Common.{map, set, Ok, refl, sym, ap, ◌∙◌, subst, arith, rules}
use Rattle.base_stores.specs.Masks.{window_of_mask, filled, kept}
use Rattle.base_stores.proofs.Kept.{left_within, mask_shows, mask_reach}
use Rattle.store.proofs.Verdicts.{moving, moves_to, refused}
use Rattle.store.specs.Each.{each}
use Rattle.store.specs.Windows.{moves, Onward}
use Rattle.base_stores.proofs.masks.MaskStoreWindowStore.trim.Goals as goal

pub returns-in_err-judge-clause-trims : goal.returns-in_err-judge-clause-trims
returns-in_err-judge-clause-trims c = let t = refused _ _ _ _ _ c.window.ensures.value c.judge.ensures c.in_err-judge.field-0.0 c.in_err-judge.was in search rules

pub fill-requires-clause-within : goal.fill-requires-clause-within
fill-requires-clause-within c =
    let f = c.in_ok-judge.was ∙ ap Ok c.in-Moves.is in
    let m = moving _ _ _ _ _ c.window.ensures.value c.judge.ensures c.in-Moves.window f in
    omega (arith, left_within c.args.self.now.masks.now c.args.place c.args.days m, ap (λ w. w.high) (moves_to _ _ _ _ _ c.window.ensures.value c.judge.ensures c.in-Moves.window f))

pub returns-in-Moves : goal.returns-in-Moves
returns-in-Moves c =
    let masks = c.args.self.now.masks.now in
    let place = c.args.place in
    let f = c.in_ok-judge.was ∙ ap Ok c.in-Moves.is in
    let m = moving _ _ _ _ _ c.window.ensures.value c.judge.ensures c.in-Moves.window f in
    let to = moves_to _ _ _ _ _ c.window.ensures.value c.judge.ensures c.in-Moves.window f in
    let mask = c.fill.ensures.value ∙ ap (λ w. filled w.low w.high) to in
    record {
      trims = moves m.there m.outside m.meets refl (ap (λ x. map window_of_mask (set masks place x)) mask ∙ mask_shows masks place c.args.days m);
      reach = subst (λ x. Onward (each kept masks) (each kept (set masks place x)) (map window_of_mask (set masks place x))) (sym mask) (mask_reach masks place c.args.days m);
      framed = refl;
    }
