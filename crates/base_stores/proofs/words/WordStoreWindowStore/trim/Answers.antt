use Rattle.std.proofs.Common.{◌+◌, ◌*◌, ◌<◌, length, set, Ok, refl, ap, ◌∙◌, arith, rules}
use Rattle.store.proofs.Pairs.{paired_length, paired_set_both, written_unpaired, written_reach}
use Rattle.store.proofs.Verdicts.{Moving, moving, moves_to, refused}
use Rattle.store.specs.Pairs.{paired}
use Rattle.store.specs.Windows.{moves}
use Rattle.base_stores.proofs.words.WordStoreWindowStore.trim.Goals as goal

pub returns-in_err-judge-clause-trims : goal.returns-in_err-judge-clause-trims
returns-in_err-judge-clause-trims c = let t = refused _ _ _ _ _ c.window.ensures c.judge.ensures c.in_err-judge.field-0.0 c.in_err-judge.was in search rules

step : (c : goal.In-Moves) → Moving (paired c.args.self.now.words.now) c.args.place c.args.days
step c = moving _ _ _ _ _ c.window.ensures c.judge.ensures c.in-Moves.window (c.in_ok-judge.was ∙ ap Ok c.in-Moves.is)

inside : (c : goal.In-Moves) → 2 * c.args.place + 1 < length c.args.self.now.words.now
inside c = omega (arith, (step c).there, paired_length c.args.self.now.words.now)

pub overflow_mul-self : goal.overflow_mul-self
overflow_mul-self c = let i = inside c in search rules

pub offset_bounds-self-place : goal.offset_bounds-self-place
offset_bounds-self-place c = let i = inside c in search rules

pub bounds-self-place : goal.bounds-self-place
bounds-self-place c = let i = inside c in search rules

pub overflow_mul-self-in-Moves : goal.overflow_mul-self-in-Moves
overflow_mul-self-in-Moves c = let i = inside c in search rules

pub overflow_add-self : goal.overflow_add-self
overflow_add-self c = let i = inside c in search rules

pub offset_bounds-self-place-in-Moves : goal.offset_bounds-self-place-in-Moves
offset_bounds-self-place-in-Moves c = let i = inside c in search rules

pub bounds-self-place-in-Moves : goal.bounds-self-place-in-Moves
bounds-self-place-in-Moves c = let i = inside c in search rules

pub returns-in-Moves : goal.returns-in-Moves
returns-in-Moves c =
    let words = c.args.self.now.words.now in
    let place = c.args.place in
    let to = moves_to _ _ _ _ _ c.window.ensures c.judge.ensures c.in-Moves.window (c.in_ok-judge.was ∙ ap Ok c.in-Moves.is) in
    record {
      trims = moves (step c).there (step c).outside (step c).meets refl (paired_set_both words place _ _ (inside c) ∙ ap (set (paired words) place) to);
      reach = written_reach words place c.in-Moves.window (inside c);
      framed = ap (λ rest. (c.args.self.now.words.ghost_name, rest)) (written_unpaired words place c.in-Moves.window (inside c));
    }
