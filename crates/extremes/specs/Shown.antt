-- What shows that a count is the least or the greatest of any choice for a list of windows.
use Rattle.std.specs.Prelude.{◌≡◌, ℕ, ◌+◌, ◌<◌, ◌≤◌, List, map, length, take}
use Rattle.std.specs.List.{AllByRecursion}
use Rattle.store.specs.declared.window.Window.{Window}
use Rattle.store.specs.Windows.{window_at}
use Rattle.nvalue.specs.Choices.{Choice, Disjoint, Violated, surplus}
use Rattle.nvalue.specs.Nvalue.{nvalue}
use Rattle.extremes.specs.declared.matching.Most.{Most}

-- no choice has fewer different days than m
abbrev pub NoFewer : List Window → ℕ → Type 0
NoFewer ws m = (ds : List ℕ) → Choice ws ds → m ≤ nvalue ds

-- no choice has more
abbrev pub NoMore : List Window → ℕ → Type 0
NoMore ws m = (ds : List ℕ) → Choice ws ds → nvalue ds ≤ m

-- m is the least count of any choice
pub record IsLeast (ws : List Window) (m : ℕ) : Type 0 where
  pub reached : (ds : List ℕ) × Choice ws ds × (nvalue ds ≡ m)
  pub least : NoFewer ws m

-- m is the greatest count of any choice
pub record IsGreatest (ws : List Window) (m : ℕ) : Type 0 where
  pub reached : (ds : List ℕ) × Choice ws ds × (nvalue ds ≡ m)
  pub greatest : NoMore ws m

-- m is the least count: a choice has it, and as many lots have windows that share no day pairwise.
-- Which choice and which lots is free.
pub record Least (ws : List Window) (days lots : List ℕ) (m : ℕ) : Type 0 where
  pub choice : Choice ws days
  pub count : nvalue days ≡ m
  pub many : length lots ≡ m
  pub there : AllByRecursion (λ lot. lot < length ws) lots
  pub disjoint : Disjoint (map (window_at ws) lots)
  pub least : NoFewer ws m

-- m is the greatest count: a choice has it, and violated runs that share no day take up the rest of the lots.
-- Which choice and which runs is free.
pub record Greatest (ws : List Window) (days : List ℕ) (runs : List Window) (m : ℕ) : Type 0 where
  pub choice : Choice ws days
  pub count : nvalue days ≡ m
  pub disjoint : Disjoint runs
  pub violated : AllByRecursion (Violated ws) runs
  pub adds_up : m + surplus ws runs ≡ length ws
  pub greatest : NoMore ws m

-- no choice has fewer different days
abbrev pub HasFewest : List Window → List ℕ → Type 0
HasFewest ws ds = NoFewer ws (nvalue ds)

-- no choice has more different days
abbrev pub HasMost : List Window → List ℕ → Type 0
HasMost ws ds = NoMore ws (nvalue ds)

-- the first of the lots show the least count, as many as it is
abbrev pub FewestOf : List Window → List ℕ → List ℕ → ℕ → Type 0
FewestOf ws days lots m = Least ws days (take m lots) m

-- the first of the runs show the greatest count
abbrev pub MostOf : List Window → List ℕ → List Window → Most → Type 0
MostOf ws days runs most = Greatest ws days (take most.runs runs) most.count
