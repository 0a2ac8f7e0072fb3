-- The matching that are noted are those of the choice.
use Rattle.std.proofs.Common.{length, replicate, false, sym, ◌∙◌, subst, arith}
use Rattle.std.proofs.lemmas.List.{length-take-le}
use Rattle.extremes.specs.Turns.{EndBefore}
use Rattle.nvalue.proofs.Choices.{choice_get_or, choice_length}
use Rattle.propagator.proofs.Hulls.{hull_from, supports_more}
use Rattle.propagator.proofs.Matched.{mated_none}
use Rattle.propagator.proofs.most_hull.hull_in.Goals as goal

pub note_mates-requires-clause-few : goal.note_mates-requires-clause-few
note_mates-requires-clause-few c = omega (arith, choice_length c.args.season.windows.now c.args.days.now c.requires.best.choice, c.args.season.few)

pub note_mates-requires-clause-ends : goal.note_mates-requires-clause-ends
note_mates-requires-clause-ends c =
    let ws = c.args.season.windows.now in
    let many = choice_length ws c.args.days.now c.requires.best.choice in
    λ k l. omega (arith, (choice_get_or ws c.args.days.now c.requires.best.choice k (omega arith)).1, c.requires.ends k (omega arith))

pub note_mates-requires-clause-each : goal.note_mates-requires-clause-each
note_mates-requires-clause-each c =
    length-take-le (length c.args.season.windows.now) (replicate 257 false) c.args.season.few ∙ sym (choice_length c.args.season.windows.now c.args.days.now c.requires.best.choice)

pub note_mates-requires-clause-none : goal.note_mates-requires-clause-none
note_mates-requires-clause-none c = mated_none c.args.days.now c.args.mates.now (length c.args.season.windows.now) 257 c.requires.free

pub bound_supports-requires-clause-matching : goal.bound_supports-requires-clause-matching
bound_supports-requires-clause-matching c =
    let many = choice_length c.args.season.windows.now c.args.days.now c.requires.best.choice in
    let s = c.note_mates.ensures in
    record {
      best = c.requires.best;
      mate = λ day k h. let is = s.mate day k h in (omega (arith, is.0), is.1);
      matched = λ k b. s.matched k (omega arith);
      spared = c.spread.ensures;
      each = c.spread.auto.spare ∙ c.note_mates.auto.spare ∙ length-take-le (length c.args.season.windows.now) (replicate 257 false) c.args.season.few;
      ends = subst (λ n. EndBefore n c.args.season.windows.now) (sym c.note_mates.auto.mates) c.requires.ends;
    }

pub loop-lot-preserved : goal.loop-lot-preserved
loop-lot-preserved c = supports_more c.args.season.windows.now c.loop-lot.hull c.loop-lot.lot c.bound_supports.result (omega arith) c.loop-lot.invariant c.bound_supports.ensures

pub returns : goal.returns
returns c = hull_from c.args.season.windows.now c.loop-lot.hull (omega arith) (λ i b. c.loop-lot.invariant i (omega arith))
