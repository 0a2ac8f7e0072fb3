use Rattle.std.proofs.Common.{sym, ◌∙◌}
use Rattle.store.proofs.Narrowing.{narrowed_same, onward_trim}
use Rattle.store_tests.proofs.clients.cut_all.Goals as goal

pub loop-place-preserved : goal.loop-place-preserved
loop-place-preserved g c = record {
  reach =
      onward_trim _ _ _ _ _ c.lower.ensures.trims
      (onward_trim _ _ _ _ _ c.raise.ensures.trims c.loop-place.invariant.reach c.raise.ensures.reach)
      c.lower.ensures.reach;
  framed = c.lower.ensures.framed ∙ c.raise.ensures.framed ∙ c.loop-place.invariant.framed;
}

pub returns : goal.returns
returns g c =
    let ws = g.S.WindowStore.windows c.loop-place.store in
    record { memory = sym (g.met.S.WindowStore.here c.loop-place.store) ∙ c.loop-place.invariant.reach ws (narrowed_same ws); framed = c.loop-place.invariant.framed }
