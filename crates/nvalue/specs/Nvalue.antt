-- nvalue: the number of different values in a list.
use Rattle.std.specs.Prelude.{◌≡◌, ℕ, ◌+◌, ◌-◌, ◌≤◌, cond, List, [], ◌∷◌, length, ◌==◌}
use Rattle.std.specs.List.{ContainsAt as Has}

-- 1 where x occurs in the list, else 0
abbrev pub has : ℕ → List ℕ → ℕ
has x [] = 0
has x (y ∷ ys) = cond (x == y) 1 (has x ys)

-- a value counts where it occurs for the last time
abbrev pub nvalue : List ℕ → ℕ
nvalue [] = 0
nvalue (x ∷ xs) = (1 - has x xs) + nvalue xs

-- no value stands twice in the list
abbrev pub Distinct : List ℕ → Type 0
Distinct [] = Unit {0}
Distinct (x ∷ xs) = (Has xs x → ⊥) × Distinct xs

-- the same values occur in both lists
abbrev pub SameMembers : List ℕ → List ℕ → Type 0
SameMembers xs ys = (x : ℕ) → (Has xs x → Has ys x) × (Has ys x → Has xs x)

-- k is the number of different values: some k values, no two of them equal, are just those that occur
abbrev pub CountOf : List ℕ → ℕ → Type 0
CountOf ds k = (xs : List ℕ) × (length xs ≡ k) × Distinct xs × SameMembers xs ds

-- the count lies from floor to ceiling
abbrev pub Counts : ℕ → ℕ → List ℕ → Type 0
Counts floor ceiling ds = (floor ≤ nvalue ds) × (nvalue ds ≤ ceiling)
