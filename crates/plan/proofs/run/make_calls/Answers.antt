use Rattle.std.proofs.Common.{◌≡◌, ◌+◌, [], ◌∷◌, ◌++◌, get_or, take, drop, set, sym, ap, ◌∙◌, subst, arith}
use Rattle.std.proofs.lemmas.List.{drop-drop, drop-set-lt, get_or-set_same, length-set, take_all, take-append-drop, take_more, take-set-le}
use Rattle.store.proofs.Narrowing.{narrowed_trans, onward_here}
use Rattle.plan.specs.declared.calls.Call.TheVariants.{NotBefore}
use Rattle.plan.specs.Calls.{PlansLeft, Runs, accepted, sheet_at, state}
use Rattle.plan.proofs.Runs.{accepted_front, makes_narrowed, runs_left, runs_length, runs_more}
use Rattle.plan.proofs.run.make_calls.Goals as goal

pub loop-number-preserved : goal.loop-number-preserved
loop-number-preserved g c =
    let lots = c.args.slip.now.lots in
    let n = c.args.slip.now.rules in
    let i = c.loop-number.number in
    let calls = c.args.calls.now in
    let os = c.loop-number.outcomes in
    let o = c.make_call.result in
    let call = get_or calls i (NotBefore 0 0) in
    let start = state (g.S.WindowStore.windows c.args.store.now) c.args.book.now c.args.answer.now c.args.work.now in
    let mid = state (g.S.WindowStore.windows c.loop-number.store) c.loop-number.book c.loop-number.answer c.loop-number.work in
    let after = state (g.S.WindowStore.windows c.make_call.new.store) c.make_call.new.book c.make_call.new.answer c.make_call.new.work in
    let more = runs_more lots n (take i calls) start mid after (take i os) call o c.loop-number.invariant.0 c.make_call.ensures.makes in
    let put : take (i + 1) (set os i o) ≡ take i os ++ o ∷ [] =
    take_more (set os i o) i o (omega (arith, length-set os i o)) ∙ ap (λ x. take i (set os i o) ++ x ∷ []) (get_or-set_same os i o o (omega arith)) ∙ ap (λ xs. xs ++ o ∷ []) (take-set-le i os i o (omega arith)) in
    let rest : drop (i + 1) (set os i o) ≡ drop (i + 1) c.args.outcomes.now =
    drop-set-lt (i + 1) os i o (omega arith) ∙ sym (drop-drop 1 i os) ∙ ap (drop 1) c.loop-number.invariant.1 ∙ drop-drop 1 i c.args.outcomes.now in (
      subst (λ xs. Runs lots n (take (i + 1) calls) start xs after) (sym put) (subst (λ cs. Runs lots n cs start (take i os ++ o ∷ []) after) (sym (take_more calls i (NotBefore 0 0) (omega arith))) more),
      rest,
      λ ws h. c.make_call.ensures.reach ws h ∙ c.loop-number.invariant.2 ws (narrowed_trans ws after.windows mid.windows h (makes_narrowed lots n call mid o after c.make_call.ensures.makes)),
      c.make_call.ensures.framed ∙ c.loop-number.invariant.3,
    )

pub returns-clause-plans : goal.returns-clause-plans
returns-clause-plans g c =
    let lots = c.args.slip.now.lots in
    let n = c.args.slip.now.rules in
    let i = c.loop-number.number in
    let calls = c.args.calls.now in
    let os = c.loop-number.outcomes in
    let start = state (g.S.WindowStore.windows c.args.store.now) c.args.book.now c.args.answer.now c.args.work.now in
    let after = state (g.S.WindowStore.windows c.loop-number.store) c.loop-number.book c.loop-number.answer c.loop-number.work in
    let runs = subst (λ cs. Runs lots n cs start (take i os) after) (take_all i calls (omega arith)) c.loop-number.invariant.0 in
    let asks : accepted calls (take i os) ≡ accepted calls os =
    sym (accepted_front calls (take i os) (drop i os) (runs_length lots n calls start after (take i os) runs)) ∙ ap (accepted calls) (take-append-drop i os) in
    subst (λ xs. PlansLeft xs (sheet_at start) (sheet_at after)) asks (runs_left lots n calls start (take i os) after runs)

pub returns-clause-memory : goal.returns-clause-memory
returns-clause-memory g c = onward_here _ _ (g.met.S.WindowStore.here c.loop-number.store) c.loop-number.invariant.2
