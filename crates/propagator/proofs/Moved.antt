-- Moving one lot to another day: no different day is lost where another lot has the old day, or no lot had the new one.
use Rattle.std.proofs.Common.{◌≡◌, ℕ, zero, suc, ◌<◌, ◌≤◌, ◌≢◌, List, [], ◌∷◌, length, get_or, set, ◌∙◌, subst, inl, inr, arith}
use Rattle.std.proofs.lemmas.List.{get_or_default, get_or-set_other, get_or-set_same, length-set, set-get_or}
use Rattle.std.proofs.lemmas.Bool.{cases_eq}
use Rattle.std.proofs.lemmas.Bool.Decides.{nat_tests}
use Rattle.nvalue.specs.Nvalue.{has, nvalue}
use Rattle.nvalue.proofs.Nvalue.{Within, has_from, has_le_one, has_to, has_without, nvalue_mono, nvalue_without, without}

-- every value but the old one stays
has_moved : (x : ℕ) (ds : List ℕ) (i v : ℕ) → (get_or ds i 0 ≡ x → ⊥) → has x ds ≤ has x (set ds i v)
has_moved x [] i v ne = omega arith
has_moved x (d ∷ ds) zero v ne = grind (arith, nat_tests, has_le_one)
has_moved x (d ∷ ds) (suc i) v ne = grind (arith, nat_tests, has_moved x ds i v ne)

module _ (ds : List ℕ) (i v : ℕ) (there : i < length ds) where
  -- the lot has the day already
  pub moved_same : get_or ds i 0 ≡ v → nvalue ds ≤ nvalue (set ds i v)
  moved_same e = subst (λ x. nvalue ds ≤ nvalue (set ds i x)) e (rw (set-get_or ds i 0) (omega arith))

  -- another lot has the old day too
  pub moved_shared : (j : ℕ) → j < length ds → j ≢ i → get_or ds j 0 ≡ get_or ds i 0 → nvalue ds ≤ nvalue (set ds i v)
  moved_shared j l ne e =
      let old : has (get_or ds i 0) (set ds i v) ≡ 1 =
      has_from _ (set ds i v) (j, rw length-set l, λ d. get_or-set_other ds i j v d ne ∙ get_or_default ds j d 0 l ∙ e) in
      nvalue_mono ds (set ds i v) (λ x. elim (cases_eq (get_or ds i 0) x) [
        | inl same ↦ subst (λ y. has y ds ≤ has y (set ds i v)) same (omega (arith, has_le_one (get_or ds i 0) ds))
        | inr other ↦ has_moved x ds i v other
      ])

  -- no lot has the new day
  pub moved_free : ((k : ℕ) → k < length ds → get_or ds k 0 ≡ v → ⊥) → nvalue ds ≤ nvalue (set ds i v)
  moved_free free =
      let own = get_or ds i 0 in
      let none : has v ds ≡ 1 → ⊥ = λ e. let m = has_to v ds e in free m.0 m.1 (m.2 0) in
      let new : has v (set ds i v) ≡ 1 = has_from v (set ds i v) (i, rw length-set there, λ d. get_or-set_same ds i v d there) in
      let within : Within (v ∷ without own ds) (set ds i v) = λ x. grind (arith, nat_tests, has_moved x ds i v, has_without own x ds) in
      grind (arith, nat_tests, nvalue_mono (v ∷ without own ds) (set ds i v) within, nvalue_without own ds, has_without own v ds, has_le_one)

  -- both: a different day more
  pub moved_gains : (j : ℕ) → j < length ds → j ≢ i → get_or ds j 0 ≡ get_or ds i 0 → ((k : ℕ) → k < length ds → get_or ds k 0 ≡ v → ⊥) → nvalue ds < nvalue (set ds i v)
  moved_gains j l ne e free =
      let none : has v ds ≡ 1 → ⊥ = λ h. let m = has_to v ds h in free m.0 m.1 (m.2 0) in
      let new : has v (set ds i v) ≡ 1 = has_from v (set ds i v) (i, rw length-set there, λ d. get_or-set_same ds i v d there) in
      let old : has (get_or ds i 0) (set ds i v) ≡ 1 =
      has_from _ (set ds i v) (j, rw length-set l, λ d. get_or-set_other ds i j v d ne ∙ get_or_default ds j d 0 l ∙ e) in
      let within : Within (v ∷ ds) (set ds i v) = λ x. elim (cases_eq (get_or ds i 0) x) [
        | inl same ↦ subst (λ y. has y (v ∷ ds) ≤ has y (set ds i v)) same (omega (arith, has_le_one (get_or ds i 0) (v ∷ ds)))
        | inr other ↦ let m = has_moved x ds i v other in grind (arith, nat_tests, has_le_one x ds, has_le_one x (set ds i v))
      ] in
      grind (arith, nat_tests, nvalue_mono (v ∷ ds) (set ds i v) within, has_le_one v ds)
