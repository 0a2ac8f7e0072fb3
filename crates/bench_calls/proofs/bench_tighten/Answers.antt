use Rattle.std.proofs.Common.{refl}
use Rattle.bench_calls.specs.Counted.{no_season, tightened}
use Rattle.bench_calls.proofs.bench_tighten.Goals as goal

pub returns-in-Some-tighten : goal.returns-in-Some-tighten
returns-in-Some-tighten c =
    tightened c.in-Some-tighten.tight.count.floor _ (rw (c.copy.ensures, ← c.in-Ok.ensures.1, ← c.in-Some.ensures.0, ← c.in-Some.ensures.1) c.in-Some-tighten.ensures) c.ceiling.ensures

pub returns-in-Err : goal.returns-in-Err
returns-in-Err c = no_season c.in-Err.field-0 c.in-Err.ensures.0 refl refl
