-- Laws of the order of lots: each slot names a lot of the stretch with its last day, each lot has one slot, and sums over slots are sums over lots.
use Rattle.std.proofs.Common.{◌≡◌, ℕ, zero, suc, ◌+◌, ◌<◌, ◌≤◌, false, cond, eqb, ltb, List, [], ◌∷◌, length, get_or, take, sum_by, sym, refl, ap, ◌∙◌, subst, arith}
use Rattle.std.specs.Ordering.{is_lt, nat_cmp, ordering_then}
use Rattle.std.specs.List.Sorted.{IsNonDecreasingBy, IsPermutation, IsSortedBy}
use Rattle.std.specs.List.{AllByRecursion}
use Rattle.std.proofs.ByRecursion.{All-from_get_or, All-get_or, has_get_or, all_shuffled, has_shuffled}
use Rattle.std.proofs.lemmas.List.Sorted.{length_permutation, IsNonDecreasingBy-from_all_adjacent, sum_by-IsPermutation}
use Rattle.std.proofs.lemmas.List.{get_or-take, length-take}
use Rattle.std.proofs.lemmas.List.Sums.{get_or-le-sum_by, sum_by-cons, sum_by_more, sum_by-take-le}
use Rattle.std.proofs.lemmas.Bool.Decides.{nat_tests}
use Rattle.store.specs.declared.window.Window.{Window}
use Rattle.store.specs.Windows.{window_at}
use Rattle.extremes.specs.Orders.{slots}

pub length_slots : (k : ℕ) (ws : List Window) → length (slots k ws) ≡ length ws
length_slots k [] = refl
length_slots k (w ∷ ws) = ap suc (length_slots (suc k) ws)

pub get_or_slots : (k : ℕ) (ws : List Window) (i : ℕ) → i < length ws → get_or (slots k ws) i (0, 0) ≡ ((window_at ws i).high, k + i)
get_or_slots k [] i h = absurd (omega arith)
get_or_slots k (w ∷ ws) zero h = let e : k ≡ k + 0 = omega arith in ap (λ n. (w.high, n)) e
get_or_slots k (w ∷ ws) (suc i) h =
    let e : suc k + i ≡ k + suc i = omega arith in
    get_or_slots (suc k) ws i (omega arith) ∙ ap (λ n. ((window_at ws i).high, n)) e

-- slots that were sorted rise by their last days
slot_le : (x y : ℕ × ℕ) → is_lt (ordering_then (nat_cmp x.0 y.0) (nat_cmp x.1 y.1)) ≡ false → y.0 ≤ x.0
slot_le x y f = grind (arith, nat_tests)

pub sorted_rises : (order : List (ℕ × ℕ)) → IsSortedBy (λ x y. is_lt (ordering_then (nat_cmp x.0 y.0) (nat_cmp x.1 y.1))) order → IsNonDecreasingBy (λ s. s.0) order
sorted_rises order up =
    IsNonDecreasingBy-from_all_adjacent (λ s. s.0) order (λ k d h. slot_le (get_or order (k + 1) d) (get_or order k d) (up k d (omega arith) (omega arith)))

-- a sum over slots is the sum over the lots that they name
sum_by_slots : (f : Window → ℕ) (all ws : List Window) (k : ℕ) → ((i : ℕ) → i < length ws → window_at all (k + i) ≡ window_at ws i) → sum_by (λ s. f (window_at all s.1)) (slots k ws) ≡ sum_by f ws
sum_by_slots f all [] k same = refl
sum_by_slots f all (w ∷ ws) k same =
    let e : k + 0 ≡ k = omega arith in
    let first : window_at all k ≡ w = subst (λ n. window_at all n ≡ w) e (same 0 (omega arith)) in
    let rest = sum_by_slots f all ws (suc k) (λ i h.
    let q : k + suc i ≡ suc k + i = omega arith in
    subst (λ n. window_at all n ≡ window_at ws i) q (same (suc i) (omega arith))) in
    let g : ℕ × ℕ → ℕ = λ s. f (window_at all s.1) in
    let both : f (window_at all k) + sum_by g (slots (suc k) ws) ≡ f w + sum_by f ws = omega (arith, ap f first, rest) in
    sum_by-cons g (w.high, k) (slots (suc k) ws) ∙ both ∙ sym (sum_by-cons f w ws)

-- 1 where a slot names a place, else 0
abbrev names : ℕ → ℕ × ℕ → ℕ
names place s = cond (eqb s.1 place) 1 0

-- at most one slot names a place, and none a place before the first one
slots_names : (place k : ℕ) (ws : List Window) → sum_by (names place) (slots k ws) ≤ cond (ltb place k) 0 1
slots_names place k [] = grind (arith, nat_tests)
slots_names place k (w ∷ ws) =
    let rest = slots_names place (suc k) ws in
    let e = sum_by-cons (names place) (w.high, k) (slots (suc k) ws) in
    grind (arith, nat_tests)

module _ (ws : List Window) (order : List (ℕ × ℕ)) (shuffled : IsPermutation (slots 0 ws) order) where
  pub length_order : length order ≡ length ws
  length_order = length_permutation _ _ shuffled ∙ length_slots 0 ws

  -- a slot names a lot with its last day
  named : AllByRecursion (λ s. (s.1 < length ws) × (s.0 ≡ (window_at ws s.1).high)) order
  named =
      all_shuffled _ _ _ shuffled
      (All-from_get_or _ (slots 0 ws) (0, 0) (λ i h.
      let l : i < length ws = omega (arith, length_slots 0 ws) in
      let z : 0 + i ≡ i = omega arith in
      subst (λ s. (s.1 < length ws) × (s.0 ≡ (window_at ws s.1).high)) (sym (get_or_slots 0 ws i l ∙ ap (λ n. ((window_at ws i).high, n)) z)) (l, refl)))

  pub slot_there : (k : ℕ) → k < length ws → (get_or order k (0, 0)).1 < length ws
  slot_there k h = (All-get_or _ order k (0, 0) (omega (arith, length_order)) named).0

  pub slot_high : (k : ℕ) → k < length ws → (get_or order k (0, 0)).0 ≡ (window_at ws (get_or order k (0, 0)).1).high
  slot_high k h = (All-get_or _ order k (0, 0) (omega (arith, length_order)) named).1

  -- each lot has a slot
  pub slot_of : (i : ℕ) → i < length ws → (k : ℕ) × (k < length ws) × ((get_or order k (0, 0)).1 ≡ i)
  slot_of i h =
      let has = has_shuffled _ _ _ shuffled (has_get_or (slots 0 ws) i (0, 0) (omega (arith, length_slots 0 ws))) in
      let z : 0 + i ≡ i = omega arith in
      (has.0, omega (arith, has.1, length_order), ap (λ s. s.1) (has.2 (0, 0) ∙ get_or_slots 0 ws i h) ∙ z)

  -- no two slots name the same lot
  pub slot_apart : (j k : ℕ) → j < k → k < length ws → (get_or order j (0, 0)).1 ≡ (get_or order k (0, 0)).1 → ⊥
  slot_apart j k l b e =
      let n : k < length order = omega (arith, length_order) in
      let f : ℕ × ℕ → ℕ = names (get_or order k (0, 0)).1 in
      let one : sum_by f order ≤ 1 = grind (arith, nat_tests, sum_by-IsPermutation f _ _ shuffled, slots_names (get_or order k (0, 0)).1 0 ws) in
      let upto = sum_by-take-le f order (k + 1) in
      let more = sum_by_more f order k (0, 0) n in
      let first : f (get_or order j (0, 0)) ≤ sum_by f (take k order) = subst (λ s. f s ≤ sum_by f (take k order)) (get_or-take k order j (0, 0) l) (get_or-le-sum_by f (take k order) j (0, 0) (simp length-take (omega arith))) in
      grind (arith, nat_tests)

  pub sum_order : (f : Window → ℕ) → sum_by (λ s. f (window_at ws s.1)) order ≡ sum_by f ws
  sum_order f = sum_by-IsPermutation _ _ _ shuffled ∙ sum_by_slots f ws ws 0 (λ i h. let z : 0 + i ≡ i = omega arith in ap (window_at ws) z)
