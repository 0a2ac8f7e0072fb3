-- Laws of the number of different values in a list.
use Rattle.std.proofs.Common.{◌≡◌, ℕ, zero, suc, ◌+◌, ◌≤◌, true, cond, eqb, List, [], ◌∷◌, ◌++◌, length, get_or, set, sym, refl, ◌∙◌, subst, inl, inr, arith}
use Rattle.std.specs.List.{ContainsAt as Has}
use Rattle.std.proofs.lemmas.List.{set-set, set-get_or}
use Rattle.std.proofs.lemmas.Bool.{cond_both}
use Rattle.std.proofs.lemmas.Bool.Decides.{nat_tests, eqb_tells}
use Rattle.nvalue.specs.Nvalue.{has, nvalue, Distinct, CountOf}

-- `has` is 0 or 1
pub has_le_one : (x : ℕ) (xs : List ℕ) → has x xs ≤ 1
has_le_one x [] = omega arith
has_le_one x (y ∷ ys) = grind (arith, nat_tests, has_le_one x ys)

-- a value that the library's `ContainsAt` (`Has` here) finds occurs
pub has_from : (x : ℕ) (xs : List ℕ) → Has xs x → has x xs ≡ 1
has_from x [] (k, l, e) = absurd (omega arith)
has_from x (y ∷ ys) (zero, l, e) = grind (arith, nat_tests, e 0)
has_from x (y ∷ ys) (suc k, l, e) = grind (arith, nat_tests, has_from x ys (k, omega arith, e))

-- a value that occurs is one that it finds
pub has_to : (x : ℕ) (xs : List ℕ) → has x xs ≡ 1 → Has xs x
has_to x [] e = absurd (omega arith)
has_to x (y ∷ ys) e =
    let rest : has x ys ≡ 1 → Has (y ∷ ys) x = λ h. let m = has_to x ys h in (suc m.0, omega arith, m.2) in
    elim (eqb_tells x y) [
      | inl h ↦ (0, omega arith, λ d. sym h.1)
      | inr h ↦ rest (grind arith)
    ]

-- a value of two lists in a row occurs in the first or in the second
pub has_append : (x : ℕ) (xs ys : List ℕ) → has x (xs ++ ys) ≡ cond (eqb (has x xs) 1) 1 (has x ys)
has_append x [] ys = grind (arith, nat_tests)
has_append x (z ∷ xs) ys = grind (arith, nat_tests, has_append x xs ys)

-- every value of one list occurs in the other
abbrev pub Within : List ℕ → List ℕ → Type 0
Within xs ys = (x : ℕ) → has x xs ≤ has x ys

pub within_members : (xs ys : List ℕ) → ((x : ℕ) → Has xs x → has x ys ≡ 1) → Within xs ys
within_members xs ys f x = let h : has x xs ≡ 1 → has x ys ≡ 1 = λ e. f x (has_to x xs e) in grind (arith, has_le_one)

pub within_append : (xs ys : List ℕ) → Within xs (xs ++ ys)
within_append xs ys x = grind (arith, nat_tests, has_append x xs ys, has_le_one)

-- a list with every x taken out
pub without : ℕ → List ℕ → List ℕ
without x [] = []
without x (y ∷ ys) = cond (eqb x y) (without x ys) (y ∷ without x ys)

-- the other values stay
pub has_without : (x z : ℕ) (ys : List ℕ) → has z (without x ys) ≡ cond (eqb x z) 0 (has z ys)
unfolding without
has_without x z [] = grind (arith, nat_tests)
has_without x z (y ∷ ys) = grind (arith, nat_tests, has_without x z ys)

-- the count falls by one where x occurred
pub nvalue_without : (x : ℕ) (ys : List ℕ) → nvalue ys ≡ has x ys + nvalue (without x ys)
unfolding without
nvalue_without x [] = refl
nvalue_without x (y ∷ ys) = grind (arith, nat_tests, nvalue_without x ys, has_without x y ys, has_le_one)

-- a list whose values all occur in another has no more different values
pub nvalue_mono : (xs ys : List ℕ) → Within xs ys → nvalue xs ≤ nvalue ys
nvalue_mono [] ys h = omega arith
nvalue_mono (x ∷ xs) ys h =
    let tail : Within xs ys = λ z. grind (arith, nat_tests, h z, has_le_one) in
    let rest : has x xs ≡ 0 → Within xs (without x ys) = λ e z. grind (arith, nat_tests, tail z, has_without x z ys) in
    let new : has x xs ≡ 0 → nvalue xs ≤ nvalue (without x ys) = λ e. nvalue_mono xs (without x ys) (rest e) in
    grind (arith, nat_tests, nvalue_mono xs ys tail, nvalue_without x ys, h x, has_le_one)

-- there are no more different values than values
pub nvalue_le_length : (xs : List ℕ) → nvalue xs ≤ length xs
nvalue_le_length [] = omega arith
nvalue_le_length (x ∷ xs) = omega (arith, nvalue_le_length xs)

-- replacing a value adds at most the new one
has_set : (x : ℕ) (xs : List ℕ) (i d : ℕ) → has x (set xs i d) ≤ has x (d ∷ xs)
has_set x [] i d = grind (arith, nat_tests)
has_set x (y ∷ xs) zero d = grind (arith, nat_tests, has_le_one)
has_set x (y ∷ xs) (suc i) d = grind (arith, nat_tests, has_set x xs i d)

-- so the count rises by at most one
pub nvalue_set : (xs : List ℕ) (i d : ℕ) → nvalue (set xs i d) ≤ nvalue xs + 1
nvalue_set xs i d = omega (arith, nvalue_mono (set xs i d) (d ∷ xs) (λ x. has_set x xs i d))

-- and falls by at most one, since putting the old value back makes it rise by at most one
pub nvalue_unset : (xs : List ℕ) (i d : ℕ) → nvalue xs ≤ nvalue (set xs i d) + 1
nvalue_unset xs i d =
    let e : set (set xs i d) i (get_or xs i 0) ≡ xs = set-set xs i d (get_or xs i 0) ∙ set-get_or xs i 0 in
    subst (λ ys. nvalue ys ≤ nvalue (set xs i d) + 1) e (nvalue_set (set xs i d) i (get_or xs i 0))

-- where no value stands twice every one counts
pub nvalue_distinct : (xs : List ℕ) → Distinct xs → nvalue xs ≡ length xs
nvalue_distinct [] u = refl
nvalue_distinct (x ∷ xs) (u, us) =
    let new : has x xs ≡ 1 → ⊥ = λ e. u (has_to x xs e) in
    grind (arith, nvalue_distinct xs us, has_le_one)

-- each value once, where it occurs for the last time
once : List ℕ → List ℕ
once [] = []
once (x ∷ xs) = cond (eqb (has x xs) 0) (x ∷ once xs) (once xs)

has_once : (x : ℕ) (xs : List ℕ) → has x (once xs) ≡ has x xs
unfolding once
has_once x [] = refl
has_once x (y ∷ ys) = grind (arith, nat_tests, has_once x ys, has_le_one)

length_once : (xs : List ℕ) → length (once xs) ≡ nvalue xs
unfolding once
length_once [] = refl
length_once (x ∷ xs) = grind (arith, nat_tests, length_once xs, has_le_one)

distinct_once : (xs : List ℕ) → Distinct (once xs)
unfolding once
distinct_once [] = tt
distinct_once (x ∷ xs) =
    let new : eqb (has x xs) 0 ≡ true → Has (once xs) x → ⊥ = λ e m. grind (arith, nat_tests, has_once x xs, has_from x (once xs) m) in
    cond_both (eqb (has x xs) 0) (x ∷ once xs) (once xs) Distinct (λ e. (new e, distinct_once xs)) (λ e. distinct_once xs)

-- nvalue is the number of different values
pub nvalue_counts_lem : (xs : List ℕ) → CountOf xs (nvalue xs)
nvalue_counts_lem xs =
    let same : (x : ℕ) → has x (once xs) ≡ has x xs = λ x. has_once x xs in
    (once xs, length_once xs, distinct_once xs, λ x. (λ m. has_to x xs (sym (same x) ∙ has_from x (once xs) m), λ m. has_to x (once xs) (same x ∙ has_from x xs m)))

-- and the only such number
pub nvalue_unique : (xs : List ℕ) (k : ℕ) → CountOf xs k → k ≡ nvalue xs
nvalue_unique xs k (ys, l, u, s) =
    let le = nvalue_mono ys xs (within_members ys xs (λ x m. has_from x xs ((s x).0 m))) in
    let ge = nvalue_mono xs ys (within_members xs ys (λ x m. has_from x ys ((s x).1 m))) in
    omega (arith, nvalue_distinct ys u)
