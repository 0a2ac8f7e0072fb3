use Rattle.store.proofs.Narrowing.{onward_here}
use Rattle.sheet.proofs.asks.ask_days.Goals as goal

pub returns-in_err-about_lot-clause-memory : goal.returns-in_err-about_lot-clause-memory
returns-in_err-about_lot-clause-memory g c = onward_here _ _ (g.met.S.WindowStore.here c.trim.new.self) c.trim.ensures.reach

pub returns-clause-memory : goal.returns-clause-memory
returns-clause-memory g c = onward_here _ _ (g.met.S.WindowStore.here c.trim.new.self) c.trim.ensures.reach
