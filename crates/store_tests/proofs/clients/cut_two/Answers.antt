use Rattle.std.proofs.Common.{sym, ◌∙◌}
use Rattle.store.proofs.Narrowing.{narrowed_same, onward_trim}
use Rattle.store_tests.proofs.clients.cut_two.Goals as goal

pub returns : goal.returns
returns g c =
    let ws = g.S.WindowStore.windows c.lower-2.new.self in
    let two = onward_trim _ _ _ _ _ c.lower.ensures.trims c.raise.ensures.reach c.lower.ensures.reach in
    let three = onward_trim _ _ _ _ _ c.raise-2.ensures.trims two c.raise-2.ensures.reach in
    let four = onward_trim _ _ _ _ _ c.lower-2.ensures.trims three c.lower-2.ensures.reach in
    record {
      memory = sym (g.met.S.WindowStore.here c.lower-2.new.self) ∙ four ws (narrowed_same ws);
      framed = c.lower-2.ensures.framed ∙ c.raise-2.ensures.framed ∙ c.lower.ensures.framed ∙ c.raise.ensures.framed;
    }
