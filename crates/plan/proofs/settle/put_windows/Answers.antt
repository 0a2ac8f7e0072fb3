use Rattle.std.proofs.Common.{◌+◌, ◌++◌, length, take, drop, set, sym, ap, ◌∙◌, subst, arith}
use Rattle.std.proofs.lemmas.List.Elements.{AllZip-get_or, length_all_zip}
use Rattle.std.proofs.ByRecursion.{All-get_or}
use Rattle.std.proofs.lemmas.List.{append-nil, drop_all, length-append, length-drop, length-take-le, take_all}
use Rattle.store.specs.Sound.{Sound}
use Rattle.store.specs.Windows.{window, window_at, Narrowed, Narrower}
use Rattle.store.proofs.Narrowing.{narrowed_trans}
use Rattle.plan.proofs.Putting.{put_at, put_inside, put_more}
use Rattle.plan.proofs.settle.put_windows.Goals as goal

pub put_window-requires : goal.put_window-requires
put_window-requires g c =
    let new = c.args.windows.now in
    let old = g.S.WindowStore.windows c.args.store.now in
    let i = c.loop-lot.lot in
    let long = length_all_zip Narrower new old c.requires.inside in
    let e = ap (λ ws. window_at ws i) c.loop-lot.invariant.0 ∙ put_at new old i long (omega arith) in
    record {
      there = omega (arith, ap length c.loop-lot.invariant.0, length-append (take i new) (drop i old), length-take-le i new (omega arith), length-drop i old);
      inside = subst (Narrower (window_at new i)) (sym e) (AllZip-get_or Narrower new old i (window 0 0) (window 0 0) c.requires.inside (omega arith));
      sound = All-get_or Sound new i (window 0 0) (omega arith) c.requires.sound;
    }

pub loop-lot-preserved : goal.loop-lot-preserved
loop-lot-preserved g c =
    let new = c.args.windows.now in
    let old = g.S.WindowStore.windows c.args.store.now in
    let i = c.loop-lot.lot in
    let long = length_all_zip Narrower new old c.requires.inside in
    let put = c.put_window.ensures.moved ∙ ap (λ ws. set ws i (window_at new i)) c.loop-lot.invariant.0 ∙ put_more new old i long (omega arith) in (
      put,
      λ ws n. c.put_window.ensures.reach ws (subst (Narrowed ws) (sym put) (narrowed_trans ws new _ n (put_inside new old (i + 1) c.requires.inside))) ∙ c.loop-lot.invariant.1 ws n,
      c.put_window.ensures.framed ∙ c.loop-lot.invariant.2,
    )

pub returns-clause-moved : goal.returns-clause-moved
returns-clause-moved g c =
    let new = c.args.windows.now in
    let old = g.S.WindowStore.windows c.args.store.now in
    let i = c.loop-lot.lot in
    let long = length_all_zip Narrower new old c.requires.inside in
    c.loop-lot.invariant.0 ∙ ap (λ ws. ws ++ drop i old) (take_all i new (omega arith)) ∙ ap (λ ws. new ++ ws) (drop_all i old (omega arith)) ∙ append-nil new
