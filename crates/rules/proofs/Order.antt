-- Laws of which list of days is the earlier.
use Rattle.std.proofs.Common.{◌≡◌, ℕ, suc, ◌<◌, ◌≤◌, ◌⊎◌, List, [], ◌∷◌, ◌++◌, length, sym, refl, ◌∙◌, subst, inl, inr, arith}
use Rattle.std.specs.List.{AllZip}
use Rattle.std.proofs.lemmas.List.{take-append-le, get_or_append_left, get_or_past}
use Rattle.std.proofs.lemmas.Bool.{cases_lt}
use Rattle.rules.specs.Plans.{Earlier}

-- one equal day in front changes nothing
pub earlier_cons : (x y : ℕ) (xs ys : List ℕ) → x ≡ y → Earlier xs ys → Earlier (x ∷ xs) (y ∷ ys)
earlier_cons x y xs ys h e = let s = e.same in record { lot = suc e.lot; same = cc; smaller = e.smaller }

-- days that are nowhere smaller are the same or later
pub earlier_or_same : (xs ys : List ℕ) → AllZip (λ x y. x ≤ y) xs ys → (ys ≡ xs) ⊎ Earlier xs ys
earlier_or_same [] [] e = inl refl
earlier_or_same [] (y ∷ ys) e = absurd e
earlier_or_same (x ∷ xs) [] e = absurd e
earlier_or_same (x ∷ xs) (y ∷ ys) (l, e) =
    elim (cases_lt x y) [
      | inl a ↦ inr (record { lot = 0; same = refl; smaller = a })
      | inr a ↦
          let h : x ≡ y = omega arith in
          elim (earlier_or_same xs ys e) [ inl s ↦ inl (cc) | inr s ↦ inr (earlier_cons x y xs ys h s) ]
    ]

-- what comes after does not matter
pub earlier_append : (xs ys us vs : List ℕ) → length xs ≡ length ys → Earlier xs ys → Earlier (xs ++ us) (ys ++ vs)
earlier_append xs ys us vs n e =
    let within : length ys ≤ e.lot → ⊥ = λ h. omega (arith, e.smaller, get_or_past ys e.lot 0 h) in
    let l : e.lot < length ys = elim (cases_lt e.lot (length ys)) [ inl a ↦ a | inr a ↦ absurd (within a) ] in
    let a = get_or_append_left xs us 0 e.lot (omega arith) in
    let b = get_or_append_left ys vs 0 e.lot l in
    record {
      lot = e.lot;
      same = take-append-le e.lot xs us (omega arith) ∙ (e.same ∙ sym (take-append-le e.lot ys vs (omega arith)));
      smaller = omega (arith, e.smaller);
    }

-- nor do the same days before
pub earlier_after : (xs us vs : List ℕ) → Earlier us vs → Earlier (xs ++ us) (xs ++ vs)
earlier_after [] us vs e = e
earlier_after (x ∷ xs) us vs e = earlier_cons x x (xs ++ us) (xs ++ vs) refl (earlier_after xs us vs e)

-- days that are the same or later in two parts are so in a row
pub earlier_join : (xs ys us vs : List ℕ) → length xs ≡ length us → (us ≡ xs) ⊎ Earlier xs us → (vs ≡ ys) ⊎ Earlier ys vs → (us ++ vs ≡ xs ++ ys) ⊎ Earlier (xs ++ ys) (us ++ vs)
earlier_join xs ys us vs n before after =
    elim before [
      | inr e ↦ inr (earlier_append xs us ys vs n e)
      | inl s ↦ elim after [
        | inl t ↦ inl (cc)
        | inr e ↦ inr (subst (λ ws. Earlier (xs ++ ys) (ws ++ vs)) (sym s) (earlier_after xs ys vs e))
      ]
    ]
