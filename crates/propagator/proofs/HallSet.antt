-- Some lots have all their days among themselves. A choice that gives one of these days to another lot too loses a day.
use Rattle.std.proofs.Common.{◌≡◌, ℕ, zero, suc, ◌+◌, ◌-◌, ◌<◌, ◌≤◌, ◌≢◌, Bool, true, false, cond, List, [], ◌∷◌, ◌++◌, length, get_or, sym, refl, arith}
use Rattle.std.proofs.lemmas.Bool.Decides.{nat_tests}
use Rattle.std.proofs.lemmas.Bool.{both_ways}
use Rattle.nvalue.specs.Nvalue.{has, nvalue}
use Rattle.nvalue.proofs.Nvalue.{has_append, has_le_one, has_to, nvalue_mono, within_append}

-- the days of the lots that have a flag
abbrev pub kept : List Bool → List ℕ → List ℕ
kept [] ds = []
kept (b ∷ bs) [] = []
kept (b ∷ bs) (d ∷ ds) = cond b (d ∷ kept bs ds) (kept bs ds)

-- how many lots have none
abbrev pub others : List Bool → ℕ
others [] = 0
others (b ∷ bs) = cond b 0 1 + others bs

-- how many days of a list do not stand in another
abbrev pub strangers : List ℕ → List ℕ → ℕ
strangers [] xs = 0
strangers (d ∷ ds) xs = (1 - has d xs) + strangers ds xs

pub has_kept : (bs : List Bool) (ds : List ℕ) (k : ℕ) → k < length ds → get_or bs k false ≡ true → has (get_or ds k 0) (kept bs ds) ≡ 1
has_kept [] ds k l t = absurd (both_ways false refl t)
has_kept (b ∷ bs) [] k l t = absurd (omega arith)
has_kept (true ∷ bs) (d ∷ ds) zero l t = grind (arith, nat_tests)
has_kept (false ∷ bs) (d ∷ ds) zero l t = absurd (both_ways false refl t)
has_kept (true ∷ bs) (d ∷ ds) (suc k) l t = grind (arith, nat_tests, has_kept bs ds k (omega arith) t)
has_kept (false ∷ bs) (d ∷ ds) (suc k) l t = has_kept bs ds k (omega arith) t

-- lots that share a day have flags
abbrev pub Flagged : List Bool → List ℕ → Type 0
Flagged bs ds = (k l : ℕ) → k < length ds → l < length ds → k ≢ l → get_or ds k 0 ≡ get_or ds l 0 → get_or bs k false ≡ true

-- then each of the others has a day of its own
own_days : (bs : List Bool) (ds : List ℕ) → length bs ≡ length ds → Flagged bs ds → nvalue (kept bs ds) + others bs ≤ nvalue ds
own_days [] [] e f = omega arith
own_days [] (d ∷ ds) e f = absurd (omega arith)
own_days (b ∷ bs) [] e f = absurd (omega arith)
own_days (true ∷ bs) (d ∷ ds) e f =
    let tail : Flagged bs ds = λ k l i j ne s. f (suc k) (suc l) (omega arith) (omega arith) (λ q. ne (omega arith)) s in
    let twice : has d ds ≡ 1 → has d (kept bs ds) ≡ 1 = λ h.
    let m = has_to d ds h in
    let at = has_kept bs ds m.0 m.1 (f (suc m.0) 0 (omega (arith, m.1)) (omega arith) (λ q. omega arith) (m.2 0)) in
    rw (m.2 0) at at in
    grind (arith, nat_tests, own_days bs ds (omega arith) tail, has_le_one d ds, has_le_one d (kept bs ds))
own_days (false ∷ bs) (d ∷ ds) e f =
    let tail : Flagged bs ds = λ k l i j ne s. f (suc k) (suc l) (omega arith) (omega arith) (λ q. ne (omega arith)) s in
    let alone : has d ds ≡ 1 → ⊥ = λ h. let m = has_to d ds h in both_ways false refl (f 0 (suc m.0) (omega arith) (omega (arith, m.1)) (λ q. omega arith) (sym (m.2 0))) in
    grind (arith, nat_tests, own_days bs ds (omega arith) tail, has_le_one d ds)

-- a list has no more different days than another and the strangers to it
strange : (es xs : List ℕ) → nvalue (es ++ xs) ≤ strangers es xs + nvalue xs
strange [] xs = omega arith
strange (d ∷ es) xs = grind (arith, nat_tests, strange es xs, has_append d es xs, has_le_one d xs)

-- where the flagged lots have days of the list, only the others are strangers, and not the one that has such a day too
few_strangers : (bs : List Bool) (es xs : List ℕ) → length bs ≡ length es → ((k : ℕ) → k < length es → get_or bs k false ≡ true → has (get_or es k 0) xs ≡ 1) → strangers es xs ≤ others bs
few_strangers [] [] xs e f = omega arith
few_strangers [] (d ∷ es) xs e f = absurd (omega arith)
few_strangers (b ∷ bs) [] xs e f = absurd (omega arith)
few_strangers (true ∷ bs) (d ∷ es) xs e f = omega (arith, few_strangers bs es xs (omega arith) (λ k l. f (suc k) (omega arith)), f 0 (omega arith) refl)
few_strangers (false ∷ bs) (d ∷ es) xs e f = omega (arith, few_strangers bs es xs (omega arith) (λ k l. f (suc k) (omega arith)))

fewer_strangers : (bs : List Bool) (es xs : List ℕ) → length bs ≡ length es → ((k : ℕ) → k < length es → get_or bs k false ≡ true → has (get_or es k 0) xs ≡ 1)
    → (i : ℕ) → i < length es → get_or bs i false ≡ false → has (get_or es i 0) xs ≡ 1 → strangers es xs + 1 ≤ others bs
fewer_strangers bs [] xs e f i l o h = absurd (omega arith)
fewer_strangers [] (d ∷ es) xs e f i l o h = absurd (omega arith)
fewer_strangers (true ∷ bs) (d ∷ es) xs e f zero l o h = absurd (both_ways true o refl)
fewer_strangers (false ∷ bs) (d ∷ es) xs e f zero l o h = omega (arith, h, few_strangers bs es xs (omega arith) (λ k l. f (suc k) (omega arith)))
fewer_strangers (true ∷ bs) (d ∷ es) xs e f (suc i) l o h =
    omega (arith, f 0 (omega arith) refl, fewer_strangers bs es xs (omega arith) (λ k l. f (suc k) (omega arith)) i (omega arith) o h)
fewer_strangers (false ∷ bs) (d ∷ es) xs e f (suc i) l o h =
    omega (arith, fewer_strangers bs es xs (omega arith) (λ k l. f (suc k) (omega arith)) i (omega arith) o h)

-- the flagged lots have only days of flagged lots, and so has another one: the choice has a day less
pub hall_set : (bs : List Bool) (ds es : List ℕ) → length bs ≡ length ds → length es ≡ length ds → Flagged bs ds
    → ((k : ℕ) → k < length es → get_or bs k false ≡ true → has (get_or es k 0) (kept bs ds) ≡ 1)
    → (i : ℕ) → i < length es → get_or bs i false ≡ false → has (get_or es i 0) (kept bs ds) ≡ 1 → nvalue es < nvalue ds
hall_set bs ds es e g f in' i l o h =
    omega (
      arith,
      own_days bs ds e f,
      nvalue_mono es (es ++ kept bs ds) (within_append es (kept bs ds)),
      strange es (kept bs ds),
      fewer_strangers bs es (kept bs ds) (omega arith) in' i l o h,
    )
