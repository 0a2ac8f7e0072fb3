-- What is found among the first `top` runs holds of all runs at the same places.
use Rattle.std.proofs.Common.{rules, ◌≡◌, ℕ, ◌<◌, ◌≤◌, take, ◌+◌, ◌-◌, subst, arith}
use Rattle.std.proofs.lemmas.List.{get_or-take}
use Rattle.store.specs.Windows.{window, window_at}
use Rattle.extremes.proofs.matching.runs_before.Goals as goal

pub returns-in-Some-clause-gone : goal.returns-in-Some-clause-gone
returns-in-Some-clause-gone c =
    λ k l h.
    let f : (j : ℕ) → c.in-Some.last < j → j < c.args.top → c.args.start ≤ (window_at (take c.args.top c.args.runs.now) j).low = search rules in
    subst (λ w. c.args.start ≤ w.low) (get_or-take c.args.top c.args.runs.now k (window 0 0) h) (f k (omega arith) h)

pub returns-in-Some-clause-left : goal.returns-in-Some-clause-left
returns-in-Some-clause-left c =
    λ h.
    let f : (window_at (take c.args.top c.args.runs.now) c.in-Some.last).low < c.args.start = search rules in
    let e : c.in-Some.last + 1 - 1 ≡ c.in-Some.last = omega arith in
    let b : c.in-Some.last < c.args.top = search rules in
    rw e (subst (λ w. w.low < c.args.start) (get_or-take c.args.top c.args.runs.now c.in-Some.last (window 0 0) b) f)

pub returns-in-None-clause-gone : goal.returns-in-None-clause-gone
returns-in-None-clause-gone c =
    λ k l h.
    let f : (j : ℕ) → j < c.args.top → c.args.start ≤ (window_at (take c.args.top c.args.runs.now) j).low = search rules in
    subst (λ w. c.args.start ≤ w.low) (get_or-take c.args.top c.args.runs.now k (window 0 0) h) (f k h)
