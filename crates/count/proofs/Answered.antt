-- The answer words of a question: a choice, then what shows its count, then what stood there before.
use Rattle.std.proofs.Common.{◌≡◌, ℕ, ◌+◌, ◌-◌, ◌*◌, ◌≤◌, List, [], ◌∷◌, ◌++◌, map, length, take, drop, sym, refl, ap, ◌∙◌, subst, arith}
use borrow.Rule.Slice.PartMut.{put_mid, post_of}
use Rattle.std.specs.List.{AllByRecursion}
use Rattle.std.proofs.ByRecursion.{All-map, All-from_get_or}
use Rattle.std.proofs.lemmas.List.{drop_at, drop-drop, take_at}
use Rattle.store.specs.declared.window.Window.{Window}
use Rattle.nvalue.specs.Choices.{part}
use Rattle.store.specs.Pairs.{paired}
use Rattle.count.specs.Asked.{FewestAnswer, MostAnswer}
use Rattle.extremes.specs.Shown.{Greatest, Least}

-- days written over the first n words, then more over the next m
pub written : (was days more : List ℕ) (n m : ℕ) → length days ≡ n → put_mid n (n + m - n) (days ++ post_of 0 (n - 0) was) more ≡ days ++ (more ++ drop (n + m) was)
written was days more n m e =
    let z : n - 0 ≡ n = omega arith in
    let k : n + m - n ≡ m = omega arith in
    let rest : drop (n - 0) was ≡ drop n was = ap (λ x. drop x was) z in
    let after : drop (n + m - n) (drop n (days ++ drop (n - 0) was)) ≡ drop (n + m) was =
    ap (drop (n + m - n)) (drop_at days (drop (n - 0) was) n e ∙ rest) ∙ ap (λ x. drop x (drop n was)) k ∙ drop-drop m n was in
    ap (λ xs. xs ++ (more ++ drop (n + m - n) (drop n (days ++ drop (n - 0) was)))) (take_at days (drop (n - 0) was) n e)
    ∙ ap (λ xs. days ++ (more ++ xs)) after

module _ (days more rest : List ℕ) (n m : ℕ) (days_are : length days ≡ n) (more_are : length more ≡ m) where
  pub written_days : take n (days ++ (more ++ rest)) ≡ days
  written_days = take_at days (more ++ rest) n days_are

  pub written_more : part (days ++ (more ++ rest)) n m ≡ more
  written_more = ap (take m) (drop_at days (more ++ rest) n days_are) ∙ take_at more rest m more_are

  pub written_rest : drop (n + m) (days ++ (more ++ rest)) ≡ rest
  written_rest = sym (drop-drop m n (days ++ (more ++ rest))) ∙ ap (drop m) (drop_at days (more ++ rest) n days_are) ∙ drop_at more rest m more_are

-- lot numbers give their places back
places_back : (first : ℕ) (ps : List ℕ) → map (λ lot. lot - first) (map (λ p. first + p) ps) ≡ ps
places_back first [] = refl
places_back first (p ∷ ps) =
    let e : first + p - first ≡ p = omega arith in
    ap (λ x. x ∷ map (λ lot. lot - first) (map (λ q. first + q) ps)) e ∙ ap (λ xs. p ∷ xs) (places_back first ps)

pub fewest_answered : (ws : List Window) (first m : ℕ) (was days places numbers : List ℕ) → length days ≡ length ws → Least ws days places m → numbers ≡ map (λ p. first + p) places → length numbers ≡ m
    → FewestAnswer ws first was (days ++ (numbers ++ drop (length ws + m) was)) m
fewest_answered ws first m was days places numbers each least are many =
    let n = length ws in
    let rest = drop (n + m) was in
    let more = written_more days numbers rest n m each many in
    let back : map (λ lot. lot - first) (part (days ++ (numbers ++ rest)) n m) ≡ places = ap (map (λ lot. lot - first)) (more ∙ are) ∙ places_back first places in
    record {
      shown = subst (λ ds. Least ws ds (map (λ lot. lot - first) (part (days ++ (numbers ++ rest)) n m)) m) (sym (written_days days numbers rest n m each many))
          (subst (λ ps. Least ws days ps m) (sym back) least);
      numbers = subst (AllByRecursion (λ lot. first ≤ lot)) (sym (more ∙ are)) (All-map (λ lot. first ≤ lot) (λ p. first + p) places (All-from_get_or _ places 0 (λ i h. omega arith)));
      rest = written_rest days numbers rest n m each many;
    }

pub most_answered : (ws runs : List Window) (m s : ℕ) (was days words : List ℕ) → length days ≡ length ws → Greatest ws days runs m → length runs ≡ s → paired words ≡ runs → length words ≡ 2 * s
    → MostAnswer ws was (days ++ (words ++ drop (length ws + 2 * s) was)) m s
most_answered ws runs m s was days words each greatest many are long =
    let n = length ws in
    let rest = drop (n + 2 * s) was in
    let shown : paired (part (days ++ (words ++ rest)) n (2 * s)) ≡ runs = ap paired (written_more days words rest n (2 * s) each long) ∙ are in
    record {
      shown = subst (λ ds. Greatest ws ds (paired (part (days ++ (words ++ rest)) n (2 * s))) m) (sym (written_days days words rest n (2 * s) each long))
          (subst (λ rs. Greatest ws days rs m) (sym shown) greatest);
      many = ap length shown ∙ many;
      rest = written_rest days words rest n (2 * s) each long;
    }
