-- Decisions by trying: whether a fact holds of numbers, lists and choices. The checker computes them.
use Rattle.std.proofs.Common.{◌≡◌, ℕ, zero, suc, ◌<◌, ◌≤◌, ◌⊎◌, Bool, true, false, true≢false, List, [], ◌∷◌, leb, eqb, le-leb, leb-true, eq-eqb, eqb-true, sym, refl, ◌∙◌, subst, inl, inr, arith}
use Rattle.std.specs.List.{AllZip, AllByRecursion}
use Rattle.std.proofs.lemmas.Bool.{cases_lt}
use Rattle.store.specs.declared.window.Window.{Window}
use Rattle.nvalue.specs.Choices.{Choice, In}

-- where the answer is yes, the fact holds
abbrev pub is_yes : {P : Type 0} → Dec P → Bool
is_yes (yes p) = true
is_yes (no n) = false

pub answered : {P : Type 0} (d : Dec P) → is_yes d ≡ true → P
answered (yes p) e = p
answered (no n) e = absurd (true≢false (sym e))

-- facts made of facts
abbrev pub like : {P Q : Type 0} → (P → Q) → (Q → P) → Dec P → Dec Q
like f g (yes p) = yes (f p)
like f g (no n) = no (λ q. n (g q))

infixr 40 ◌&◌
abbrev pub ◌&◌ : {P Q : Type 0} → Dec P → Dec Q → Dec (P × Q)
no n & d = no (λ h. n h.0)
yes p & no n = no (λ h. n h.1)
yes p & yes q = yes (p, q)

abbrev pub either : {P Q : Type 0} → Dec P → Dec Q → Dec (P ⊎ Q)
either (yes p) d = yes (inl p)
either (no n) (yes q) = yes (inr q)
either (no n) (no m) = no (λ h. elim h [ inl p ↦ n p | inr q ↦ m q ])

abbrev pub implies : {P Q : Type 0} → Dec P → Dec Q → Dec (P → Q)
implies (no n) d = yes (λ p. absurd (n p))
implies (yes p) (yes q) = yes (λ _. q)
implies (yes p) (no n) = no (λ f. n (f p))

-- the same, where the second fact is looked at first
abbrev pub gives : {P Q : Type 0} → Dec P → Dec Q → Dec (P → Q)
gives d (yes q) = yes (λ _. q)
gives (no n) (no m) = yes (λ p. absurd (n p))
gives (yes p) (no m) = no (λ f. m (f p))

abbrev pub fails : {P : Type 0} → Dec P → Dec (P → ⊥)
fails (yes p) = no (λ n. n p)
fails (no n) = yes n

-- numbers
abbrev ordered : (a b : ℕ) (t : Bool) → leb a b ≡ t → Dec (a ≤ b)
ordered a b true e = yes (leb-true a b e)
ordered a b false e = no (λ h. true≢false (sym (le-leb a b h) ∙ e))

abbrev pub le : (a b : ℕ) → Dec (a ≤ b)
le a b = ordered a b (leb a b) refl

abbrev alike : (a b : ℕ) (t : Bool) → eqb a b ≡ t → Dec (a ≡ b)
alike a b true e = yes (eqb-true a b e)
alike a b false e = no (λ h. true≢false (sym (eq-eqb a b h) ∙ e))

abbrev pub same : (a b : ℕ) → Dec (a ≡ b)
same a b = alike a b (eqb a b) refl

-- every number below another, and some one
module _ {P : ℕ → Type 0} (decide : (i : ℕ) → Dec (P i)) where
  pub last_or_below : (n : ℕ) → P n × ((i : ℕ) → i < n → P i) → (i : ℕ) → i < suc n → P i
  last_or_below n h i l =
      elim (cases_lt i n) [ inl k ↦ h.1 i k | inr k ↦ subst P (let e : n ≡ i = omega arith in e) h.0 ]

  abbrev pub below : (n : ℕ) → Dec ((i : ℕ) → i < n → P i)
  below zero = yes (λ i l. absurd (omega arith))
  below (suc n) =
      like (last_or_below n) (λ h. (h n (omega arith), λ i l. h i (omega arith))) (decide n & below n)

  pub last_or_found : (n : ℕ) → P n ⊎ ((i : ℕ) × (i < n) × P i) → (i : ℕ) × (i < suc n) × P i
  last_or_found n (inl p) = (n, omega arith, p)
  last_or_found n (inr (i, l, p)) = (i, omega arith, p)

  pub found_or_last : (n : ℕ) → (i : ℕ) × (i < suc n) × P i → P n ⊎ ((i : ℕ) × (i < n) × P i)
  found_or_last n (i, l, p) =
      elim (cases_lt i n) [ inl k ↦ inr (i, k, p) | inr k ↦ inl (subst P (let e : i ≡ n = omega arith in e) p) ]

  abbrev pub found_below : (n : ℕ) → Dec ((i : ℕ) × (i < n) × P i)
  found_below zero = no (λ h. let l = h.1 in omega arith)
  found_below (suc n) = like (last_or_found n) (found_or_last n) (either (decide n) (found_below n))

-- every element of a list, and two lists place by place
module _ {X : Type 0} where
  abbrev pub each : {P : X → Type 0} → ((x : X) → Dec (P x)) → (xs : List X) → Dec (AllByRecursion P xs)
  each decide [] = yes tt
  each decide (x ∷ xs) = decide x & each decide xs

  abbrev pub pairs : {R : X → X → Type 0} → ((x y : X) → Dec (R x y)) → (xs ys : List X) → Dec (AllZip R xs ys)
  pairs decide [] [] = yes tt
  pairs decide [] (y ∷ ys) = no (λ h. h)
  pairs decide (x ∷ xs) [] = no (λ h. h)
  pairs decide (x ∷ xs) (y ∷ ys) = decide x y & pairs decide xs ys

-- the days of a window
abbrev pub day_of : (w : Window) (d : ℕ) → Dec (In w d)
day_of w d = le w.low d & le d w.high

module _ {P : ℕ → Type 0} (w : Window) (decide : (d : ℕ) → Dec (P d)) where
  abbrev pub every_day : Dec ((d : ℕ) → In w d → P d)
  every_day =
      like (λ f d h. f d (omega (arith, h.1)) h) (λ f d l h. f d h)
      (below (λ d. implies (day_of w d) (decide d)) (suc w.high))

  abbrev pub some_day : Dec ((d : ℕ) × In w d × P d)
  some_day =
      like (λ h. (h.0, h.2.0, h.2.1)) (λ h. (h.0, omega (arith, h.1.1), (h.1, h.2)))
      (found_below (λ d. day_of w d & decide d) (suc w.high))

-- every choice, and some choice
module _ (P : List ℕ → Type 0) where
  pub no_days : P [] → (ds : List ℕ) → Choice [] ds → P ds
  no_days p [] c = p
  no_days p (d ∷ ds) c = absurd c

  pub found_none : (ds : List ℕ) × Choice [] ds × P ds → P []
  found_none ([], c, p) = p
  found_none (d ∷ ds, c, p) = absurd c

  module _ (w : Window) (ws : List Window) where
    pub one_more_day : ((d : ℕ) → In w d → (ds : List ℕ) → Choice ws ds → P (d ∷ ds))
        → (ds : List ℕ) → Choice (w ∷ ws) ds → P ds
    one_more_day f [] c = absurd c
    one_more_day f (d ∷ ds) (i, c) = f d i ds c

    -- so much for a first day
    abbrev pub Begun : ℕ → Type 0
    Begun d = (ds : List ℕ) × Choice ws ds × P (d ∷ ds)

    pub found_more : (ds : List ℕ) × Choice (w ∷ ws) ds × P ds → (d : ℕ) × In w d × Begun d
    found_more ([], c, p) = absurd c
    found_more (d ∷ ds, (i, c), p) = (d, i, (ds, c, p))

    pub more_found : (d : ℕ) × In w d × Begun d → (ds : List ℕ) × Choice (w ∷ ws) ds × P ds
    more_found (d, i, (ds, c, p)) = (d ∷ ds, (i, c), p)

abbrev pub every : (ws : List Window) (P : List ℕ → Type 0) → ((ds : List ℕ) → Dec (P ds))
    → Dec ((ds : List ℕ) → Choice ws ds → P ds)
every [] P decide = like (no_days P) (λ f. f [] tt) (decide [])
every (w ∷ ws) P decide =
    like (one_more_day P w ws) (λ f d i ds c. f (d ∷ ds) (i, c))
    (every_day w (λ d. every ws (λ ds. P (d ∷ ds)) (λ ds. decide (d ∷ ds))))

abbrev pub some : (ws : List Window) (P : List ℕ → Type 0) → ((ds : List ℕ) → Dec (P ds))
    → Dec ((ds : List ℕ) × Choice ws ds × P ds)
some [] P decide = like (λ p. ([], tt, p)) (found_none P) (decide [])
some (w ∷ ws) P decide =
    like (more_found P w ws) (found_more P w ws)
    (some_day w (λ d. some ws (λ ds. P (d ∷ ds)) (λ ds. decide (d ∷ ds))))
