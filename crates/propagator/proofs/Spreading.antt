-- From a spare lot over the days of its window, one after the other.
use Rattle.std.proofs.Common.{◌≡◌, ℕ, zero, suc, ◌+◌, ◌<◌, ◌≤◌, Bool, true, false, cond, ◌⊎◌, List, [], ◌∷◌, length, get_or, set, take, drop, Option, None, sym, refl, ap, ◌∙◌, subst, inl, inr, arith}
use Rattle.std.proofs.lemmas.List.{get_or-drop, get_or-set_same, get_or-take}
use Rattle.std.proofs.lemmas.Bool.{both_ways, cases_eq}
use Rattle.extremes.specs.Flags.{Set, Unset}
use Rattle.propagator.specs.Matching.{Mate, Spread}
use Rattle.propagator.proofs.Matched.{set_stays, set_was, same_some}

-- a place of a part
pub part_at : (mates : List (Option ℕ)) (low n i : ℕ) → i < n → get_or (take n (drop low mates)) i None ≡ get_or mates (low + i) None
part_at mates low n i l = get_or-take n (drop low mates) i None l ∙ get_or-drop low mates i None

pub spread_none : (from : ℕ) (mates : List (Option ℕ)) (spare pending : List Bool) → Spread from (from + 0) mates spare pending spare pending
spread_none from mates spare pending = record {
  all = λ day k a b h. absurd (omega arith);
  kept = λ k l. l;
  only = λ k l. inl l;
  waits = λ k p. p;
  new = λ k l. inl l;
  news = λ k p. inl p;
}

module _ (from end : ℕ) (mates : List (Option ℕ)) (spare pending spare' pending' : List Bool) (s : Spread from end mates spare pending spare' pending') where
  -- no lot has the next day
  pub spread_free : (next : ℕ) → next ≡ end + 1 → ((k : ℕ) → Mate mates end k → ⊥) → Spread from next mates spare pending spare' pending'
  spread_free next n free = rw n (record {
    all = λ day k a b h. elim (cases_eq day end) [
      | inl e ↦ absurd (free k (subst (λ x. Mate mates x k) e h))
      | inr ne ↦ s.all day k a (omega arith) h
    ];
    kept = s.kept;
    only = λ k l. elim (s.only k l) [ inl o ↦ inl o | inr d ↦ inr (d.0, d.1, omega (arith, d.2), d.3) ];
    waits = s.waits;
    new = s.new;
    news = s.news;
  })

  -- a lot has it
  module _ (k : ℕ) (has : Mate mates end k) (there : k < length spare') (each : length pending' ≡ length spare') where
    abbrev pub more : List Bool
    more = set spare' k true

    all_more : (day j : ℕ) → from ≤ day → day < end + 1 → Mate mates day j → Set more j
    all_more day j a b h = elim (cases_eq day end) [
      | inl e ↦ let is = same_some k j (sym has ∙ subst (λ x. Mate mates x j) e h) in subst (Set more) is (get_or-set_same spare' k true false there)
      | inr ne ↦ set_stays spare' k j (s.all day j a (omega arith) h)
    ]

    from_le : from ≤ end → (j : ℕ) → Set more j → Set spare j ⊎ ((day : ℕ) × (from ≤ day) × (day < end + 1) × Mate mates day j)
    from_le le j l = elim (set_was spare' k j l) [
      | inl e ↦ inr (end, le, omega arith, subst (Mate mates end) (sym e) has)
      | inr o ↦ elim (s.only j o) [ inl p ↦ inl p | inr d ↦ inr (d.0, d.1, omega (arith, d.2), d.3) ]
    ]

    was_bound : Unset spare' k → (b : Bool) → get_or spare k false ≡ b → Unset spare k
    was_bound u true e = absurd (both_ways (get_or spare' k false) u (s.kept k e))
    was_bound u false e = e

    held : from ≤ end → (b : Bool) → get_or spare' k false ≡ b → Spread from (end + 1) mates spare pending more (cond b pending' (set pending' k true))
    held le true e = record {
      all = all_more;
      kept = λ j l. set_stays spare' k j (s.kept j l);
      only = from_le le;
      waits = s.waits;
      new = λ j l. elim (set_was spare' k j l) [ inl i ↦ s.new j (subst (Set spare') (sym i) e) | inr o ↦ s.new j o ];
      news = λ j p. elim (s.news j p) [ inl q ↦ inl q | inr q ↦ inr (q.0, set_stays spare' k j q.1) ];
    }
    held le false e = record {
      all = all_more;
      kept = λ j l. set_stays spare' k j (s.kept j l);
      only = from_le le;
      waits = λ j p. set_stays pending' k j (s.waits j p);
      new = λ j l. elim (set_was spare' k j l) [
        | inl i ↦ inr (subst (Set (set pending' k true)) (sym i) (get_or-set_same pending' k true false (omega arith)))
        | inr o ↦ elim (s.new j o) [ inl q ↦ inl q | inr q ↦ inr (set_stays pending' k j q) ]
      ];
      news = λ j p. elim (set_was pending' k j p) [
        | inl i ↦ inr (subst (Unset spare) (sym i) (was_bound e (get_or spare k false) refl), subst (Set more) (sym i) (get_or-set_same spare' k true false there))
        | inr o ↦ elim (s.news j o) [ inl q ↦ inl q | inr q ↦ inr (q.0, set_stays spare' k j q.1) ]
      ];
    }

    pub spread_held : (next : ℕ) → next ≡ end + 1 → from ≤ end → Spread from next mates spare pending more (cond (get_or spare' k false) pending' (set pending' k true))
    spread_held next n le = rw n (held le (get_or spare' k false) refl)

-- what is left to do: to make the bound lots spare, and to go through those that are pending
abbrev pub work : List Bool → List Bool → ℕ
work [] ps = 0
work (b ∷ bs) [] = 0
work (b ∷ bs) (p ∷ ps) = (cond b 0 2 + cond p 1 0) + work bs ps

-- lot by lot it gets no more
work_lot : (b p b' p' : Bool) → (b ≡ true → b' ≡ true) → (p' ≡ true → (p ≡ true) ⊎ ((b ≡ false) × (b' ≡ true))) → cond b' 0 2 + cond p' 1 0 ≤ cond b 0 2 + cond p 1 0
work_lot true p true true f g = elim (g refl) [ inl e ↦ omega (arith, ap {B = ℕ} (λ x. cond x 1 0) e) | inr e ↦ absurd (both_ways true e.0 refl) ]
work_lot true p true false f g = omega arith
work_lot true p false p' f g = absurd (both_ways false refl (f refl))
work_lot false p true true f g = omega arith
work_lot false p true false f g = omega arith
work_lot false p false true f g = elim (g refl) [ inl e ↦ omega (arith, ap {B = ℕ} (λ x. cond x 1 0) e) | inr e ↦ absurd (both_ways false refl e.1) ]
work_lot false p false false f g = omega arith

pub work_less : (bs ps bs' ps' : List Bool) → length ps ≡ length bs → length bs' ≡ length bs → length ps' ≡ length bs → ((k : ℕ) → Set bs k → Set bs' k)
    → ((k : ℕ) → Set ps' k → Set ps k ⊎ (Unset bs k × Set bs' k)) → work bs' ps' ≤ work bs ps
work_less [] ps [] ps' e f g k n = omega arith
work_less [] ps (b' ∷ bs') ps' e f g k n = absurd (omega arith)
work_less (b ∷ bs) [] bs' ps' e f g k n = absurd (omega arith)
work_less (b ∷ bs) (p ∷ ps) [] ps' e f g k n = absurd (omega arith)
work_less (b ∷ bs) (p ∷ ps) (b' ∷ bs') [] e f g k n = absurd (omega arith)
work_less (b ∷ bs) (p ∷ ps) (b' ∷ bs') (p' ∷ ps') e f g k n =
    omega (arith, work_lot b p b' p' (k 0) (n 0), work_less bs ps bs' ps' (omega arith) (omega arith) (omega arith) (λ j. k (suc j)) (λ j. n (suc j)))

-- one less is pending
pub work_taken : (bs ps : List Bool) (k : ℕ) → length ps ≡ length bs → k < length ps → Set ps k → work bs (set ps k false) < work bs ps
work_taken bs [] k e l t = absurd (omega arith)
work_taken [] (p ∷ ps) k e l t = absurd (omega arith)
work_taken (b ∷ bs) (true ∷ ps) zero e l t = omega arith
work_taken (b ∷ bs) (false ∷ ps) zero e l t = absurd (both_ways false refl t)
work_taken (b ∷ bs) (p ∷ ps) (suc k) e l t = omega (arith, work_taken bs ps k (omega arith) (omega arith) t)
