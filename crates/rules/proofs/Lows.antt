-- Where the low ends keep every rule they are the earliest plan.
use Rattle.std.proofs.Common.{ℕ, ◌≤◌, List, [], ◌∷◌, arith}
use Rattle.std.specs.List.{AllZip, AllByRecursion}
use Rattle.store.specs.declared.window.Window.{Window}
use Rattle.nvalue.specs.Choices.{Choice}
use Rattle.rules.specs.Sheets.{Sheet}
use Rattle.rules.specs.Plans.{Keeps, Earliest, lows}
use Rattle.rules.proofs.Order.{earlier_or_same}

-- where no window is empty the low ends are a choice
pub choice_lows : (ws : List Window) → AllByRecursion (λ w. w.low ≤ w.high) ws → Choice ws (lows ws)
choice_lows [] a = tt
choice_lows (w ∷ ws) (l, a) = ((omega arith, l), choice_lows ws a)

-- no choice has an earlier day for any lot
pub lows_least : (ws : List Window) (ds : List ℕ) → Choice ws ds → AllZip (λ x y. x ≤ y) (lows ws) ds
lows_least [] [] c = tt
lows_least [] (d ∷ ds) c = absurd c
lows_least (w ∷ ws) [] c = absurd c
lows_least (w ∷ ws) (d ∷ ds) (b, c) = (b.0, lows_least ws ds c)

-- so they are the earliest plan where they keep every rule
pub earliest_lows : (s : Sheet) → AllByRecursion (λ w. w.low ≤ w.high) s.windows → AllByRecursion (Keeps (lows s.windows)) s.rules → Earliest s (lows s.windows)
earliest_lows s a k = record {
  plan = record { choice = choice_lows s.windows a; keeps = k };
  first = λ es p. earlier_or_same (lows s.windows) es (lows_least s.windows es p.choice);
}
