-- A spare lot can get any day of its window.
use Rattle.std.proofs.Common.{arith}
use Rattle.std.proofs.ByRecursion.{All-get_or}
use Rattle.store.specs.Sound.{Sound}
use Rattle.store.specs.Windows.{window, window_at}
use Rattle.nvalue.proofs.Choices.{choice_get_or}
use Rattle.propagator.proofs.most_hull.bound_supports.Goals as goal

pub returns-then-matching-lot : goal.returns-then-matching-lot
returns-then-matching-lot c =
    let ws = c.args.matching.season.windows.now in
    let w = window_at ws c.args.lot in
    let sound = All-get_or Sound ws c.args.lot (window 0 0) c.requires.there c.args.matching.season.sound in
    let any = c.requires.matching.spared.any c.args.lot c.requires.there c.if-matching-lot.true in
    record {
      low = any w.low (omega arith, sound.0);
      high = any w.high (sound.0, omega arith);
      kept = λ ds b. choice_get_or ws ds b.choice c.args.lot c.requires.there;
    }
