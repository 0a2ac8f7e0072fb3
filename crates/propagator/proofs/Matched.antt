-- Lots take their matching one after the other.
use Rattle.std.proofs.Common.{◌≡◌, ℕ, zero, suc, ◌+◌, ◌<◌, ◌≢◌, Bool, true, false, ◌⊎◌, List, [], ◌∷◌, length, get_or, set, take, replicate, Option, None, Some, sym, refl, ap, ◌∙◌, subst, inl, inr, arith, MatchOption}
use Rattle.std.proofs.lemmas.List.{get_or-set_other, get_or-set_same, length-set}
use Rattle.std.proofs.lemmas.Bool.{both_ways, cases_eq}
use Rattle.extremes.specs.Flags.{Set, Unset}
use Rattle.propagator.specs.Matching.{Unmatched, Mate, Mated}

number : Option ℕ → ℕ
number None = 0
number (Some k) = suc k

pub same_some : (a b : ℕ) → Some a ≡ Some b → a ≡ b
unfolding number
same_some a b e = omega (arith, ap number e)

pub none_some : (a : ℕ) → None ≡ Some a → ⊥
unfolding number
none_some a e = absurd (omega (arith, ap number e))

-- a flag that is set stays so where another is set
pub set_stays : (bs : List Bool) (i k : ℕ) → Set bs k → Set (set bs i true) k
set_stays [] i k t = t
set_stays (b ∷ bs) zero zero t = refl
set_stays (b ∷ bs) zero (suc k) t = t
set_stays (b ∷ bs) (suc i) zero t = t
set_stays (b ∷ bs) (suc i) (suc k) t = set_stays bs i k t

-- a flag that is set afterwards was so, or is the one
pub set_was : (bs : List Bool) (i k : ℕ) → Set (set bs i true) k → (k ≡ i) ⊎ Set bs k
set_was [] i k t = inr t
set_was (b ∷ bs) zero zero t = inl refl
set_was (b ∷ bs) zero (suc k) t = inr t
set_was (b ∷ bs) (suc i) zero t = inr t
set_was (b ∷ bs) (suc i) (suc k) t = elim (set_was bs i k t) [ inl e ↦ inl (ap suc e) | inr l ↦ inr l ]

pub set_there : (bs : List Bool) (k : ℕ) → Set bs k → k < length bs
set_there [] k t = absurd (both_ways false refl t)
set_there (b ∷ bs) zero t = omega arith
set_there (b ∷ bs) (suc k) t = omega (arith, set_there bs k t)

module _ (ds : List ℕ) (mates : List (Option ℕ)) (spare : List Bool) (t : ℕ) (there : t < length ds) (room : get_or ds t 0 < length mates) (many : length spare ≡ length ds)
    (s : Mated t ds mates spare) where
  abbrev pub noted : List (Option ℕ)
  noted = set mates (get_or ds t 0) (Some t)

  here : Mate noted (get_or ds t 0) t
  here = get_or-set_same mates (get_or ds t 0) (Some t) None room

  elsewhere : (day : ℕ) → day ≢ get_or ds t 0 → get_or noted day None ≡ get_or mates day None
  elsewhere day ne = get_or-set_other mates (get_or ds t 0) day (Some t) None ne

  mate : (day k : ℕ) → Mate noted day k → (k < t + 1) × (get_or ds k 0 ≡ day)
  mate day k h = elim (cases_eq day (get_or ds t 0)) [
    | inl e ↦
        let is : t ≡ k = same_some t k (sym here ∙ subst (λ x. Mate noted x k) e h) in
        (omega arith, subst (λ x. get_or ds x 0 ≡ day) is (sym e))
    | inr ne ↦ let old = s.mate day k (sym (elsewhere day ne) ∙ h) in (omega (arith, old.0), old.1)
  ]

  matched : (k : ℕ) → k < t + 1 → (l : ℕ) × Mate noted (get_or ds k 0) l
  matched k b = elim (cases_eq (get_or ds k 0) (get_or ds t 0)) [
    | inl e ↦ (t, subst (λ x. Mate noted x t) (sym e) here)
    | inr ne ↦
        let before : k < t = elim (cases_eq k t) [ inl e ↦ absurd (ne (ap (λ x. get_or ds x 0) e)) | inr l ↦ omega arith ] in
        let old = s.matched k before in
        (old.0, elsewhere (get_or ds k 0) ne ∙ old.1)
  ]

  -- no lot before has the day
  mated_alone : get_or mates (get_or ds t 0) None ≡ None → Mated (t + 1) ds noted spare
  mated_alone none =
      let new : (k : ℕ) → k < t → get_or ds k 0 ≡ get_or ds t 0 → ⊥ = λ k b e. let old = s.matched k b in none_some old.0 (sym none ∙ subst (λ x. Mate mates x old.0) e old.1) in
      record {
        mate = mate;
        matched = matched;
        company = λ k l a b ne e.
            elim (cases_eq k t) [
              | inl i ↦ absurd (new l (omega arith) (sym e ∙ ap (λ x. get_or ds x 0) i))
              | inr i ↦ elim (cases_eq l t) [
                | inl j ↦ absurd (new k (omega arith) (e ∙ ap (λ x. get_or ds x 0) j))
                | inr j ↦ s.company k l (omega arith) (omega arith) ne e
              ]
            ];
        shared = λ k f. let old = s.shared k f in (omega (arith, old.0), (old.1.0, omega (arith, old.1.1), old.1.2, old.1.3));
      }

  -- a lot before has it too
  module _ (other : ℕ) (has : Mate mates (get_or ds t 0) other) where
    abbrev pub both : List Bool
    both = set (set spare other true) t true

    stays : (k : ℕ) → Set spare k → Set both k
    stays k f = set_stays (set spare other true) t k (set_stays spare other k f)

    own : Set both t
    own = get_or-set_same (set spare other true) t true false (omega (arith, length-set spare other true))

    others : Set both other
    others = set_stays (set spare other true) t other (get_or-set_same spare other true false (omega (arith, (s.mate (get_or ds t 0) other has).0)))

    mated_both : Mated (t + 1) ds noted both
    mated_both =
        let old = s.mate (get_or ds t 0) other has in
        record {
          mate = mate;
          matched = matched;
          company = λ k l a b ne e.
              elim (cases_eq k t) [
                | inl i ↦ subst (Set both) (sym i) own
                | inr i ↦ elim (cases_eq k other) [
                  | inl o ↦ subst (Set both) (sym o) others
                  | inr o ↦ elim (cases_eq l t) [
                    | inl j ↦ stays k (s.company k other (omega arith) old.0 o (e ∙ ap (λ x. get_or ds x 0) j ∙ sym old.1))
                    | inr j ↦ stays k (s.company k l (omega arith) (omega arith) ne e)
                  ]
                ]
              ];
          shared = λ k f.
              elim (set_was (set spare other true) t k f) [
                | inl i ↦ (omega arith, (other, omega (arith, old.0), (λ q. omega (arith, old.0)), old.1 ∙ sym (ap (λ x. get_or ds x 0) i)))
                | inr g ↦ elim (set_was spare other k g) [
                  | inl o ↦ (omega (arith, old.0), (t, omega arith, (λ q. omega (arith, old.0)), sym (ap (λ x. get_or ds x 0) o ∙ old.1)))
                  | inr h ↦ let was = s.shared k h in (omega (arith, was.0), (was.1.0, omega (arith, was.1.1), was.1.2, was.1.3))
                ]
              ];
        }

  pub mated_more : (is : List (Option ℕ)) (spare' : List Bool) → is ≡ set mates (get_or ds t 0) (Some t) → (o : Option ℕ) → get_or mates (get_or ds t 0) None ≡ o
      → MatchOption o (spare' ≡ spare) (λ other. spare' ≡ set (set spare other true) t true) → Mated (t + 1) ds is spare'
  mated_more is spare' e None none m = rw (e, m) (mated_alone none)
  mated_more is spare' e (Some other) some m = rw (e, m) (mated_both other some)

none_set : (n m k : ℕ) → Unset (take n (replicate m false)) k
none_set zero m k = refl
none_set (suc n) zero k = refl
none_set (suc n) (suc m) zero = refl
none_set (suc n) (suc m) (suc k) = none_set n m k

-- no lot has a matched at first
pub mated_none : (ds : List ℕ) (mates : List (Option ℕ)) (n m : ℕ) → ((d : ℕ) → Unmatched mates d) → Mated 0 ds mates (take n (replicate m false))
mated_none ds mates n m free = record {
  mate = λ day k h. absurd (none_some k (sym (free day) ∙ h));
  matched = λ k l. absurd (omega arith);
  company = λ k l a b ne e. absurd (omega arith);
  shared = λ k l. absurd (both_ways (get_or (take n (replicate m false)) k false) (none_set n m k) l);
}
