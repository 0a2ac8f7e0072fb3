-- What a choice of days is, and what shows that no choice has fewer or more different days.
use Rattle.std.specs.Prelude.{ℕ, suc, ◌+◌, ◌-◌, ◌<◌, ◌≤◌, cond, ◌&&◌, List, [], ◌∷◌, take, drop, nat_le}
use Rattle.std.specs.List.{AllByRecursion}
use Rattle.store.specs.declared.window.Window.{Window}

-- a day lies inside a window, both ends included
abbrev pub In : Window → ℕ → Type 0
In w d = (w.low ≤ d) × (d ≤ w.high)

-- a choice gives each lot one day inside its window
abbrev pub Choice : List Window → List ℕ → Type 0
Choice [] [] = Unit {0}
Choice [] (d ∷ ds) = ⊥
Choice (w ∷ ws) [] = ⊥
Choice (w ∷ ws) (d ∷ ds) = In w d × Choice ws ds

-- a stretch: so many lots in a row, from the first on
abbrev pub part : {X : Type 0} → List X → ℕ → ℕ → List X
part xs first len = take len (drop first xs)

-- no day lies in both windows
abbrev pub ShareNoDay : Window → Window → Type 0
ShareNoDay v w = (d : ℕ) → In v d → In w d → ⊥

-- no two windows of a list share a day
abbrev pub Disjoint : List Window → Type 0
Disjoint [] = Unit {0}
Disjoint (w ∷ ws) = AllByRecursion (ShareNoDay w) ws × Disjoint ws

-- how many days a run has, first and last included
abbrev pub size : Window → ℕ
size run = suc run.high - run.low

-- how many of the windows lie wholly inside a run
abbrev pub load : Window → List Window → ℕ
load run [] = 0
load run (w ∷ ws) = cond (nat_le run.low w.low && nat_le w.high run.high) 1 0 + load run ws

-- a run is violated, as a Hall interval is, where more windows lie in it than it has days; its surplus is how many more
abbrev pub Violated : List Window → Window → Type 0
Violated ws run = size run < load run ws

abbrev pub surplus : List Window → List Window → ℕ
surplus ws [] = 0
surplus ws (run ∷ runs) = (load run ws - size run) + surplus ws runs
