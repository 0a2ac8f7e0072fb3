use Rattle.std.proofs.Common.{◌≡◌, ◌<◌, [], ◌∷◌, ◌++◌, length, arith, rules}
use Rattle.std.proofs.lemmas.List.{places}
use Rattle.store.specs.Checks.{refuse}
use Rattle.store.proofs.Checks.{checked_after}
use Rattle.store.proofs.Narrowing.{onward_here}
use Rattle.guard.proofs.Cleared.{words_cleared}
use Rattle.sheet.specs.declared.fault.SheetFault.TheVariants.{ShortWork}
use Rattle.plan.specs.Ready.{slip_checks}
use Rattle.plan.specs.Settles.{Settled, Settles, none_firm}
use Rattle.plan.proofs.Exactly.{settles_exactly}
use Rattle.plan.proofs.settle.settle.Goals as goal

pub returns : goal.returns
returns g c =
    let ws = g.S.WindowStore.windows c.args.store.now in
    let is = g.S.WindowStore.windows c.settle_on.new.store in
    let book = c.args.book.now in
    let now' = c.settle_on.new.book in
    let lots = c.args.slip.now.lots in
    let n = c.args.slip.now.rules in
    let work = length c.args.work.now in
    let settles : Settles work lots n ws book c.settle_on.result is now' =
    checked_after (refuse ShortWork (work < 4096) ∷ []) (slip_checks lots n ws book ++ none_firm ws book ∷ []) c.settle_on.result (λ _. Settled ws book is now') ((is ≡ ws) × (now' ≡ book))
    (λ e h. omega (arith, h.0), tt) c.settle_on.ensures.settles in
    record {
      settles = settles;
      exactly = settles_exactly work lots n ws book c.settle_on.result is now' settles;
      reach = c.settle_on.ensures.reach;
      memory = onward_here _ _ (g.met.S.WindowStore.here c.settle_on.new.store) c.settle_on.ensures.reach;
      framed = c.settle_on.ensures.framed;
      cleared = words_cleared c.args.work.now c.settle_on.new.words (omega arith) (search (rules, places)) c.settle_on.ensures.zero;
    }
