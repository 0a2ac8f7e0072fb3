-- Laws of lists of checks.
use Rattle.std.proofs.Common.{◌≡◌, ◌⊎◌, ◌↔◌, List, [], ◌∷◌, ◌++◌, Ok, Err, Result, inl, inr, ap, subst}
use Rattle.store.specs.Checks.{Checked, Passes, Refused, here, later, refuse}

-- one list of checks after another
module _ {E : Type 0} where
  pub refused_front : (checks more : List (E → Type 0)) (e : E) → Refused checks e → Refused (checks ++ more) e
  refused_front [] more e r = absurd r
  refused_front (c ∷ cs) more e (here h) = here h
  refused_front (c ∷ cs) more e (later n r) = later n (refused_front cs more e r)

  pub refused_back : (checks more : List (E → Type 0)) (e : E) → Passes checks → Refused more e → Refused (checks ++ more) e
  refused_back [] more e p r = r
  refused_back (c ∷ cs) more e p r = later p.0 (refused_back cs more e p.1 r)

  pub passes_both : (checks more : List (E → Type 0)) → Passes checks → Passes more → Passes (checks ++ more)
  passes_both [] more p q = q
  passes_both (c ∷ cs) more p q = (p.0, passes_both cs more p.1 q)

  pub passes_front : (checks more : List (E → Type 0)) → Passes (checks ++ more) → Passes checks
  passes_front [] more p = tt
  passes_front (c ∷ cs) more p = (p.0, passes_front cs more p.1)

  -- what passes is not refused
  pub passes_refused : (checks : List (E → Type 0)) (e : E) → Passes checks → Refused checks e → ⊥
  passes_refused [] e p r = r
  passes_refused (c ∷ cs) e p (here h) = p.0 e h
  passes_refused (c ∷ cs) e p (later _ r) = passes_refused cs e p.1 r

  -- of two lists of checks, one after the other, the first refuses, or it passes and the second refuses
  pub refused_split : (checks more : List (E → Type 0)) (e : E) → Refused (checks ++ more) e → Refused checks e ⊎ (Passes checks × Refused more e)
  refused_split [] more e r = inr (tt, r)
  refused_split (c ∷ cs) more e (here h) = inl (here h)
  refused_split (c ∷ cs) more e (later n r) = elim (refused_split cs more e r) [ inl q ↦ inl (later n q) | inr q ↦ inr ((n, q.0), q.1) ]

-- A call whose last check refuses in a way of its own does so exactly where the others pass and that check's condition holds.
pub exactly_last : {E V : Type 0} (first : List (E → Type 0)) (why : E) (None : Type 0) (r : Result V E) (Given : V → Type 0) (Stays : Type 0)
    → (Refused first why → ⊥) → ((v : V) → Given v → None → ⊥) → Checked (first ++ refuse why None ∷ []) r Given Stays
    → (r ≡ Err why) ↔ (Passes first × None)
exactly_last {E} {V} first why None (Ok v) Given Stays own given h = (λ s. cc, λ p. absurd (given v h.1 p.1))
exactly_last {E} {V} first why None (Err e) Given Stays own given h =
    elim (refused_split first (refuse why None ∷ []) e h.0) [
      | inl r ↦ (λ s. let same : e ≡ why = cc in absurd (own (subst (Refused first) same r)), λ p. absurd (passes_refused first e p.0 r))
      | inr p ↦ (λ s. (p.0, (last p.1).0), λ q. ap Err (last p.1).1)
    ]
  where
    last : Refused (refuse why None ∷ []) e → None × (e ≡ why)
    last (here k) = k
    last (later _ k) = absurd k

-- A call that has passed its first checks answers by the rest of the list.
pub checked_after : {E V : Type 0} (checks more : List (E → Type 0)) (r : Result V E) (Given : V → Type 0) (Stays : Type 0)
    → Passes checks → Checked more r Given Stays → Checked (checks ++ more) r Given Stays
checked_after checks more (Ok v) Given Stays p c = (passes_both checks more p c.0, c.1)
checked_after checks more (Err e) Given Stays p c = (refused_back checks more e p c.0, c.1)
