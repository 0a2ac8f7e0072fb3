use Rattle.std.proofs.Common.{ℕ, ◌<◌, List, length, Some, None, Option, arith, rules, MatchOption}
use Rattle.std.specs.List.{AllByRecursion, AllWithin, HoldsAt}
use Rattle.std.proofs.ByRecursion.{All-from_get_or}
use Rattle.std.proofs.lemmas.Iterator.{IsFirst-from_position, YieldsList-from_slice}
use borrow.Author.Tests.{tests}
use Rattle.store.specs.declared.window.Window.{Window}
use Rattle.store.specs.Windows.{window}
use Rattle.search.specs.Search.{FirstOpen, Single}
use Rattle.search.proofs.lows.first_open.Goals as goal

-- the first window with a choice, as the library finds it
first : (ws : List Window) (r : Option ℕ) → MatchOption r (AllWithin Single ws 0 (length ws)) (λ i. (i < length ws) × HoldsAt (λ w. w.low < w.high) ws i × AllWithin Single ws 0 i)
    → MatchOption r (AllByRecursion Single ws) (FirstOpen ws)
first ws None h = All-from_get_or Single ws (window 0 0) (λ k l. h k (window 0 0) (omega arith) l)
first ws (Some i) h = record { choice = record { there = h.0; many = h.1 (window 0 0) }; before = λ k l. h.2 k (window 0 0) (omega arith) l }

pub returns : goal.returns
returns c =
    first c.args.windows.now _
    (IsFirst-from_position _ _ _ (λ w. w.low < w.high) Single c.position.ensures.ran (YieldsList-from_slice c.args.windows.now cc) (λ x q k. search (rules, tests)) (λ x q k. search (rules, tests)))
