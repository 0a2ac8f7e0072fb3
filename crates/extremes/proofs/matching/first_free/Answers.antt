-- What is found among the days of the window holds of all days, the window's first day further on.
use Rattle.std.proofs.Common.{rules, ◌≡◌, ℕ, suc, ◌+◌, ◌-◌, ◌<◌, ◌≤◌, Bool, true, false, List, take, drop, ◌∙◌, subst, arith}
use Rattle.std.proofs.lemmas.List.{get_or-drop, get_or-take}
use Rattle.extremes.specs.Flags.{Set}
use Rattle.extremes.proofs.matching.first_free.Goals as goal

-- days that are taken among those of a window
shifted : (taken : List Bool) (low n m : ℕ) → m ≤ n → ((k : ℕ) → k < m → Set (take n (drop low taken)) k) → (d : ℕ) → low ≤ d → d < low + m → Set taken d
shifted taken low n m le f d l h =
    let k = d - low in
    let e : low + k ≡ d = omega arith in
    let at = get_or-take n (drop low taken) k false (omega arith) ∙ get_or-drop low taken k false in
    subst (Set taken) e (subst (λ b. b ≡ true) at (f k (omega arith)))

pub returns-in-Some-clause-before : goal.returns-in-Some-clause-before
returns-in-Some-clause-before c =
    let size = suc c.args.window.high - c.args.window.low in
    let f : (k : ℕ) → k < c.in-Some.later → Set (take size (drop c.args.window.low c.args.taken.now)) k = search rules in
    let le : c.in-Some.later ≤ size = search rules in
    shifted _ _ size _ le f

pub returns-in-None-clause-before : goal.returns-in-None-clause-before
returns-in-None-clause-before c =
    λ d l h.
    let size = suc c.args.window.high - c.args.window.low in
    let f : (k : ℕ) → k < size → Set (take size (drop c.args.window.low c.args.taken.now)) k = search rules in
    shifted _ _ size size (omega arith) f d l (omega arith)
