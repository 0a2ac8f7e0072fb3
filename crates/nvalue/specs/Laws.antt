-- The laws of counting, each as a statement that some function's contract names.
use Rattle.std.specs.Prelude.{◌≡◌, ℕ, ◌+◌, ◌<◌, ◌≤◌, List, map, length, slice_index, slice_set}
use Rattle.std.specs.List.{AllByRecursion}
use Rattle.store.specs.declared.window.Window.{Window}
use Rattle.store.specs.Windows.{window_at}
use Rattle.nvalue.specs.Choices.{Choice, Disjoint, Violated, surplus}
use Rattle.nvalue.specs.Nvalue.{nvalue, CountOf}

-- nvalue is the number of different values, and there is one such number
abbrev pub NvalueCounts : Type 0
NvalueCounts = (ds : List ℕ) → CountOf ds (nvalue ds) × ((k : ℕ) → CountOf ds k → k ≡ nvalue ds)

-- replacing one day changes the count by at most one
abbrev pub ReplacingMovesByOne : Type 0
ReplacingMovesByOne = (ds : List ℕ) (i d : ℕ) → (nvalue (slice_set ds i d) ≤ nvalue ds + 1)
    × (nvalue ds ≤ nvalue (slice_set ds i d) + 1)

-- every count between those of two choices that agree on a lot is the count of a choice that agrees there too
abbrev pub CountsBetweenAreCounts : Type 0
CountsBetweenAreCounts =
    (ws : List Window) (xs ys : List ℕ) (i k : ℕ) → Choice ws xs → Choice ws ys → slice_index xs i ≡ slice_index ys i
    → nvalue xs ≤ k → k ≤ nvalue ys
    → (zs : List ℕ) × Choice ws zs × (slice_index zs i ≡ slice_index xs i) × (nvalue zs ≡ k)

-- lots whose windows share no day pairwise: every choice has at least as many different days
abbrev pub DisjointWindowsBoundBelow : Type 0
DisjointWindowsBoundBelow =
    (ws : List Window) (ds lots : List ℕ) → Choice ws ds → AllByRecursion (λ lot. lot < length ws) lots
    → Disjoint (map (window_at ws) lots) → length lots ≤ nvalue ds

-- violated runs that share no day: every choice has at most as many different days as lots, less the surpluses
abbrev pub ViolatedRunsBoundAbove : Type 0
ViolatedRunsBoundAbove =
    (ws runs : List Window) (ds : List ℕ) → Choice ws ds → Disjoint runs → AllByRecursion (Violated ws) runs
    → nvalue ds + surplus ws runs ≤ length ws
