-- Laws of choices: their days by place, a choice with one day replaced, and the counts between those of two choices.
use Rattle.std.proofs.Common.{◌≡◌, ℕ, zero, suc, ◌+◌, ◌<◌, ◌≤◌, cond, ltb, List, [], ◌∷◌, length, get_or, set, sym, refl, ap, ◌∙◌, subst, inl, inr, arith}
use Rattle.std.proofs.lemmas.List.{length-set, get_or-set_same, get_or-set_other, get_or_past, ext_get_or}
use Rattle.std.proofs.lemmas.Bool.{cases_eq, cases_lt}
use Rattle.std.proofs.lemmas.Bool.Decides.{nat_tests}
use Rattle.store.specs.declared.window.Window.{Window}
use Rattle.store.specs.Windows.{window_at}
use Rattle.nvalue.specs.Choices.{In, Choice}
use Rattle.nvalue.specs.Nvalue.{nvalue}
use Rattle.nvalue.proofs.Nvalue.{nvalue_set}

-- a choice has one day for each window
pub choice_length : (ws : List Window) (ds : List ℕ) → Choice ws ds → length ds ≡ length ws
choice_length [] [] c = refl
choice_length [] (d ∷ ds) c = absurd c
choice_length (w ∷ ws) [] c = absurd c
choice_length (w ∷ ws) (d ∷ ds) (b, c) = ap suc (choice_length ws ds c)

-- the day at a place lies inside the window at that place
pub choice_get_or : (ws : List Window) (ds : List ℕ) → Choice ws ds → (i : ℕ) → i < length ws → In (window_at ws i) (get_or ds i 0)
choice_get_or [] ds c i l = absurd (omega arith)
choice_get_or (w ∷ ws) [] c i l = absurd c
choice_get_or (w ∷ ws) (d ∷ ds) (b, c) zero l = b
choice_get_or (w ∷ ws) (d ∷ ds) (b, c) (suc i) l = choice_get_or ws ds c i (omega arith)

-- as many days as windows, each inside the window at its place, are a choice
pub choice_from_get_or : (ws : List Window) (ds : List ℕ) → length ds ≡ length ws → ((i : ℕ) → i < length ws → In (window_at ws i) (get_or ds i 0)) → Choice ws ds
choice_from_get_or [] [] e f = tt
choice_from_get_or [] (d ∷ ds) e f = omega arith
choice_from_get_or (w ∷ ws) [] e f = omega arith
choice_from_get_or (w ∷ ws) (d ∷ ds) e f = (f 0 (omega arith), choice_from_get_or ws ds (omega arith) (λ i l. f (suc i) (omega arith)))

-- a choice with one day replaced by another inside its window is a choice
pub choice_set : (ws : List Window) (ds : List ℕ) (i d : ℕ) → Choice ws ds → (i < length ws → In (window_at ws i) d) → Choice ws (set ds i d)
choice_set [] [] i d c h = tt
choice_set [] (x ∷ ds) i d c h = absurd c
choice_set (w ∷ ws) [] i d c h = absurd c
choice_set (w ∷ ws) (x ∷ ds) zero d (b, c) h = (h (omega arith), c)
choice_set (w ∷ ws) (x ∷ ds) (suc i) d (b, c) h = (b, choice_set ws ds i d c (λ l. h (omega arith)))

-- xs with its first j days replaced by those of ys
mixed : ℕ → List ℕ → List ℕ → List ℕ
mixed zero xs ys = xs
mixed (suc j) xs ys = set (mixed j xs ys) j (get_or ys j 0)

mixed_choice : (ws : List Window) (xs ys : List ℕ) (j : ℕ) → Choice ws xs → Choice ws ys → Choice ws (mixed j xs ys)
unfolding mixed
mixed_choice ws xs ys zero c d = c
mixed_choice ws xs ys (suc j) c d = choice_set ws (mixed j xs ys) j (get_or ys j 0) (mixed_choice ws xs ys j c d) (choice_get_or ws ys d j)

-- mixed days by place: those of ys before j, those of xs from j on
module _ (xs ys : List ℕ) (same : length xs ≡ length ys) where
  mixed_length : (j : ℕ) → length (mixed j xs ys) ≡ length xs
  unfolding mixed
  mixed_length zero = refl
  mixed_length (suc j) = length-set (mixed j xs ys) j (get_or ys j 0) ∙ mixed_length j

  mixed_get_or : (j i : ℕ) → get_or (mixed j xs ys) i 0 ≡ cond (ltb i j) (get_or ys i 0) (get_or xs i 0)
  unfolding mixed
  mixed_get_or zero i = grind (arith, nat_tests)
  mixed_get_or (suc j) i =
      let zs = mixed j xs ys in
      let y = get_or ys j 0 in
      grind (arith, nat_tests, cases_eq i j, mixed_get_or j i, mixed_length (suc j), length-set zs j y, get_or-set_same zs j y 0, get_or-set_other zs j i y 0, get_or_past (set zs j y) i 0, get_or_past ys i 0)

  mixed_all : mixed (length xs) xs ys ≡ ys
  mixed_all =
      let n = mixed_length (length xs) in
      ext_get_or 0 (mixed (length xs) xs ys) ys (n ∙ same) (λ i l. grind (arith, nat_tests, mixed_get_or (length xs) i))

-- what rises by at most one at each step takes every value between
reaches : (f : ℕ → ℕ) (k : ℕ) → ((j : ℕ) → f (suc j) ≤ f j + 1) → (n : ℕ) → f 0 ≤ k → k ≤ f n → (j : ℕ) × (f j ≡ k)
reaches f k step zero l h = (0, omega arith)
reaches f k step (suc n) l h =
    let earlier : k ≤ f n → (j : ℕ) × (f j ≡ k) = reaches f k step n l in
    elim (cases_lt (f n) k) [
      | inl a ↦ (suc n, omega (arith, step n))
      | inr a ↦ earlier a
    ]

-- every count between those of two choices that agree on a lot is the count of a choice that agrees there too
pub counts_between : (ws : List Window) (xs ys : List ℕ) (i k : ℕ) → Choice ws xs → Choice ws ys → get_or xs i 0 ≡ get_or ys i 0 → nvalue xs ≤ k → k ≤ nvalue ys
    → (zs : List ℕ) × Choice ws zs × (get_or zs i 0 ≡ get_or xs i 0) × (nvalue zs ≡ k)
unfolding mixed
counts_between ws xs ys i k c d e l h =
    let same : length xs ≡ length ys = choice_length ws xs c ∙ sym (choice_length ws ys d) in
    let last : k ≤ nvalue (mixed (length xs) xs ys) = subst (λ zs. k ≤ nvalue zs) (sym (mixed_all xs ys same)) h in
    let r = reaches (λ j. nvalue (mixed j xs ys)) k (λ j. nvalue_set (mixed j xs ys) j (get_or ys j 0)) (length xs) l last in
    (mixed r.0 xs ys, mixed_choice ws xs ys r.0 c d, grind (arith, nat_tests, mixed_get_or xs ys same r.0 i), r.1)
