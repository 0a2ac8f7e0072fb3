-- The days that choices with the fewest different days use: those from a point that is found from the right to its counterpart from the left. The first such day
-- of each window is its new low end, and by the mirror image the last one is its new high end.
use Rattle.std.proofs.Common.{◌≡◌, ℕ, zero, suc, ◌+◌, ◌-◌, ◌<◌, ◌≤◌, cond, ltb, List, [], ◌∷◌, map, length, get_or, set, sym, refl, ap, ◌∙◌, subst, inl, inr, arith}
use Rattle.std.specs.List.{AllByRecursion}
use Rattle.std.proofs.ByRecursion.{All-get_or, All-set, has_get_or}
use Rattle.std.proofs.lemmas.List.{get_or-map, get_or-set_other, get_or-set_same, length-map}
use Rattle.std.proofs.lemmas.Bool.{cases_eq, cases_lt, cond_both}
use Rattle.std.proofs.lemmas.Bool.Decides.{nat_tests}
use Rattle.store.specs.declared.window.Window.{Window}
use Rattle.store.specs.Windows.{window, window_at}
use Rattle.nvalue.specs.Choices.{In, Choice}
use Rattle.nvalue.specs.Nvalue.{has, nvalue}
use Rattle.nvalue.proofs.Bounds.{nvalue_at_least, nvalue_at_most}
use Rattle.nvalue.proofs.Choices.{choice_from_get_or, choice_get_or, choice_length, choice_set}
use Rattle.nvalue.proofs.Nvalue.{has_from}
use Rattle.extremes.specs.Mirror.{flip, mirrored}
use Rattle.extremes.specs.Stabbing.{StabbingPoints}
use Rattle.propagator.specs.FirstSupport.{Ascending, SomeFrom, FirstSupport}
use Rattle.extremes.specs.Shown.{HasFewest}
use Rattle.store.specs.Sound.{Sound}
use Rattle.propagator.specs.Tight.{Hull}
use Rattle.extremes.proofs.Mirrored.{choice_back, choice_days, choice_mirrored, fewest_back, fewest_mirrored, mirrored_twice, nvalue_mirrored, sound_mirrored}

-- a day is one of m days
abbrev Among : ℕ → (ℕ → ℕ) → ℕ → Type 0
Among m f d = (j : ℕ) × (j < m) × (f j ≡ d)

-- where each window holds one of m days, some choice takes only such days
choice_among : (ws : List Window) (m : ℕ) (f : ℕ → ℕ) → ((i : ℕ) → i < length ws → (j : ℕ) × (j < m) × In (window_at ws i) (f j)) → (ds : List ℕ) × Choice ws ds × AllByRecursion (Among m f) ds
choice_among [] m f held = ([], tt, tt)
choice_among (w ∷ ws) m f held =
    let first = held 0 (omega arith) in
    let rest = choice_among ws m f (λ i h. held (suc i) (omega arith)) in
    (f first.0 ∷ rest.0, (first.2, rest.1), ((first.0, first.1, refl), rest.2))

-- days that are all among m days are at most m different ones
among_most : (ds : List ℕ) (m : ℕ) (f : ℕ → ℕ) → AllByRecursion (Among m f) ds → nvalue ds ≤ m
among_most ds m f all = nvalue_at_most ds m f (λ i h. All-get_or (Among m f) ds i 0 h all)

-- what ascends does not fall
pub ascends_le : (f : ℕ → ℕ) (m : ℕ) → ((i j : ℕ) → i < j → j < m → f i < f j) → (i j : ℕ) → i ≤ j → j < m → f i ≤ f j
ascends_le f m up i j l h = elim (cases_eq i j) [ inl e ↦ omega (arith, ap f e) | inr ne ↦ omega (arith, up i j (omega arith) h) ]

-- a day of a choice occurs in it
has_day : (ws : List Window) (ds : List ℕ) → Choice ws ds → (i : ℕ) → i < length ws → has (get_or ds i 0) ds ≡ 1
has_day ws ds c i h = has_from _ ds (has_get_or ds i 0 (omega (arith, choice_length ws ds c)))

sound_at : (ws : List Window) → AllByRecursion Sound ws → (i : ℕ) → i < length ws → Sound (window_at ws i)
sound_at ws sound i h = All-get_or Sound ws i (window 0 0) h sound

image : (ws : List Window) (i : ℕ) → i < length ws → window_at (map mirrored ws) i ≡ mirrored (window_at ws i)
image ws i h = get_or-map mirrored ws i (window 0 0) (window 0 0) h

-- points by themselves: they ascend, one lies at or past the first day of each window, and there are as many as the fewest different days
module _ (ws : List Window) (ps : List ℕ) (sound : AllByRecursion Sound ws) (p : StabbingPoints ws ps) where
  pub points_ascend : Ascending ps
  points_ascend i j l h = omega (arith, p.apart i j l h, p.ends j h, (sound_at ws sound (p.witness j) (p.there j h)).0)

  pub points_reached : (i : ℕ) → i < length ws → SomeFrom (window_at ws i).low ps
  points_reached i h = let e = p.holds i h in (e.0, e.1, e.2.0)

  -- some choice has no more different days than there are points
  points_enough : (ds : List ℕ) × Choice ws ds × (nvalue ds ≤ length ps)
  points_enough =
      let e = choice_among ws (length ps) (λ j. get_or ps j 0) p.holds in
      (e.0, e.1, among_most e.0 (length ps) (λ j. get_or ps j 0) e.2)

  -- and none has fewer
  points_needed : (ds : List ℕ) → Choice ws ds → length ps ≤ nvalue ds
  points_needed ds c =
      let day : (j : ℕ) → j < length ps → In (window_at ws (p.witness j)) (get_or ds (p.witness j) 0) = λ j h. choice_get_or ws ds c (p.witness j) (p.there j h) in
      nvalue_at_least ds (length ps) (λ j. get_or ds (p.witness j) 0)
      (λ i j l h e. omega (arith, (day i (omega arith)).1, p.ends i (omega arith), p.apart i j l h, (day j h).0))
      (λ j h. has_day ws ds c (p.witness j) (p.there j h))

-- the mirror image needs at least as many points, and so just as many
points_fewer : (ws : List Window) (ps qs : List ℕ) → AllByRecursion Sound ws → StabbingPoints ws ps → StabbingPoints (map mirrored ws) qs → length ps ≤ length qs
points_fewer ws ps qs sound p q =
    let e = points_enough (map mirrored ws) qs (sound_mirrored ws sound) q in
    omega (arith, points_needed ws ps sound p (map flip e.0) (choice_back ws e.0 sound e.1), nvalue_mirrored e.0 (choice_days (map mirrored ws) e.0 (sound_mirrored ws sound) e.1), e.2)

points_twice : (ws : List Window) (ps : List ℕ) → AllByRecursion Sound ws → StabbingPoints ws ps → StabbingPoints (map mirrored (map mirrored ws)) ps
points_twice ws ps sound p = subst (λ vs. StabbingPoints vs ps) (sym (mirrored_twice ws sound)) p

pub points_same : (ws : List Window) (ps qs : List ℕ) → AllByRecursion Sound ws → StabbingPoints ws ps → StabbingPoints (map mirrored ws) qs → length qs ≡ length ps
points_same ws ps qs sound p q =
    omega (arith, points_fewer ws ps qs sound p q, points_fewer (map mirrored ws) qs ps (sound_mirrored ws sound) q (points_twice ws ps sound p))

-- in the mirror image a point lies at or past the image of the last day of each window
pub image_reached : (ws : List Window) (qs : List ℕ) → AllByRecursion Sound ws → StabbingPoints (map mirrored ws) qs → (i : ℕ) → i < length ws → SomeFrom (flip (window_at ws i).high) qs
image_reached ws qs sound q i h =
    subst (λ w. SomeFrom w.low qs) (image ws i h) (points_reached (map mirrored ws) qs (sound_mirrored ws sound) q i (omega (arith, length-map ws mirrored)))

-- StabbingPoints ps, from the left, and those of the mirror image, qs. Turned back and in ascending order these are the points from the right, each the first day of a
-- witness: `left k` lies at or before its counterpart `right k`, and choices with the fewest days use just the days between the two.
module _ (ws : List Window) (ps qs : List ℕ) (sound : AllByRecursion Sound ws) (p : StabbingPoints ws ps) (q : StabbingPoints (map mirrored ws) qs) where
  abbrev right : ℕ → ℕ
  right k = get_or ps k 0

  abbrev left : ℕ → ℕ
  left k = flip (get_or qs (length ps - 1 - k) 0)

  abbrev begins : ℕ → ℕ
  begins k = q.witness (length ps - 1 - k)

  same : length qs ≡ length ps
  same = points_same ws ps qs sound p q

  begins_there : (k : ℕ) → k < length ps → begins k < length ws
  begins_there k h = omega (arith, q.there (length ps - 1 - k) (omega (arith, same)), length-map ws mirrored)

  begins_at : (k : ℕ) → k < length ps → (window_at ws (begins k)).low ≡ left k
  begins_at k h =
      let there = begins_there k h in
      let s = sound_at ws sound (begins k) there in
      omega (arith, q.ends (length ps - 1 - k) (omega (arith, same)), ap (λ w. w.high) (image ws (begins k) there), s.0, s.1)

  begins_apart : (i j : ℕ) → i < j → j < length ps → (window_at ws (begins i)).high < left j
  begins_apart i j l h =
      let there = begins_there i (omega arith) in
      omega (arith, q.apart (length ps - 1 - j) (length ps - 1 - i) (omega arith) (omega (arith, same)), ap (λ w. w.low) (image ws (begins i) there))

  holds_left : (i : ℕ) → i < length ws → (j : ℕ) × (j < length ps) × In (window_at ws i) (left j)
  holds_left i h =
      let e = q.holds i (omega (arith, length-map ws mirrored)) in
      let k = length ps - 1 - e.0 in
      let back : length ps - 1 - k ≡ e.0 = omega (arith, e.1, same) in
      let at : left k ≡ flip (get_or qs e.0 0) = ap (λ n. flip (get_or qs n 0)) back in
      let low = ap (λ w. w.low) (image ws i h) in
      let high = ap (λ w. w.high) (image ws i h) in
      let s = sound_at ws sound i h in
      (k, omega (arith, e.1, same), (omega (arith, e.2.1, s.0, s.1), omega (arith, e.2.0, s.0, s.1)))

  left_ascends : (i j : ℕ) → i < j → j < length ps → left i < left j
  left_ascends i j l h =
      omega (arith, begins_at i (omega arith), (sound_at ws sound (begins i) (begins_there i (omega arith))).0, begins_apart i j l h)

  left_le : (i j : ℕ) → i ≤ j → j < length ps → left i ≤ left j
  left_le = ascends_le left (length ps) left_ascends

  right_le : (i j : ℕ) → i ≤ j → j < length ps → right i ≤ right j
  right_le = ascends_le right (length ps) (points_ascend ws ps sound p)

  -- a point from the right lies at or before its counterpart: the counterpart's witness holds a point from the right, and that is no earlier one
  meets : (n k : ℕ) → k < n → k < length ps → left k ≤ right k
  meets zero k l h = absurd (omega arith)
  meets (suc n) k l h =
      let e = holds_left (p.witness k) (p.there k h) in
      elim (cases_lt e.0 k) [
        | inl b ↦ absurd (omega (arith, meets n e.0 (omega arith) (omega arith), p.apart e.0 k b h, e.2.0))
        | inr b ↦ omega (arith, left_le k e.0 b e.1, e.2.1, p.ends k h)
      ]

  -- each day v between counterparts is used, by each lot whose window holds it
  module _ (k v : ℕ) (there : k < length ps) (low : left k ≤ v) (high : v ≤ right k) where
    -- points from the left before v, points from the right after it
    abbrev rung : ℕ → ℕ
    rung j = cond (ltb j k) (right j) (cond (ltb k j) (left j) v)

    rung_here : rung k ≡ v
    rung_here = grind (arith, nat_tests)

    -- each window holds one of these days
    rungs : (i : ℕ) → i < length ws → (j : ℕ) × (j < length ps) × In (window_at ws i) (rung j)
    rungs i h =
        let a = p.holds i h in
        let b = holds_left i h in
        let later : v < (window_at ws i).low → rung b.0 ≡ left b.0 = λ l. grind (arith, nat_tests, left_le b.0 k, b.2.0) in
        let sooner : (window_at ws i).high < v → rung a.0 ≡ right a.0 = λ l. grind (arith, nat_tests, right_le k a.0, a.1, a.2.1) in
        elim (cases_lt v (window_at ws i).low) [
          | inl l ↦ (b.0, b.1, subst (In (window_at ws i)) (sym (later l)) b.2)
          | inr from ↦ elim (cases_lt (window_at ws i).high v) [
            | inl l ↦ (a.0, a.1, subst (In (window_at ws i)) (sym (sooner l)) a.2)
            | inr upto ↦ (k, there, subst (In (window_at ws i)) (sym rung_here) (from, upto))
          ]
        ]

    used : (i : ℕ) → i < length ws → In (window_at ws i) v → (ds : List ℕ) × Choice ws ds × HasFewest ws ds × (get_or ds i 0 ≡ v)
    used i h inside =
        let e = choice_among ws (length ps) rung rungs in
        let most = among_most (set e.0 i v) (length ps) rung (All-set (Among (length ps) rung) e.0 i v (k, there, rung_here) e.2) in (
          set e.0 i v,
          choice_set ws e.0 i v e.1 (λ _. inside),
          λ es c. omega (arith, most, points_needed ws ps sound p es c),
          get_or-set_same e.0 i v 0 (omega (arith, choice_length ws e.0 e.1)),
        )

  -- a choice with a day after one point from the left and before the next one from the right has more different days than there are points
  module _ (ds : List ℕ) (c : Choice ws ds) (k d : ℕ) (there : k < length ps) (before : (j : ℕ) → j < k → right j < d) (after : d < left k) where
    abbrev sooner : ℕ → ℕ
    sooner j = get_or ds (p.witness j) 0

    abbrev later : ℕ → ℕ
    later j = get_or ds (begins j) 0

    abbrev different : ℕ → ℕ
    different j = cond (ltb j k) (sooner j) (cond (ltb j (length ps)) (later j) d)

    sooner_in : (j : ℕ) → j < length ps → In (window_at ws (p.witness j)) (sooner j)
    sooner_in j h = choice_get_or ws ds c (p.witness j) (p.there j h)

    later_in : (j : ℕ) → j < length ps → In (window_at ws (begins j)) (later j)
    later_in j h = choice_get_or ws ds c (begins j) (begins_there j h)

    sooner_up : (i j : ℕ) → i < j → j < k → sooner i < sooner j
    sooner_up i j l h =
        omega (arith, (sooner_in i (omega arith)).1, p.ends i (omega arith), p.apart i j l (omega arith), (sooner_in j (omega arith)).0)

    later_up : (i j : ℕ) → i < j → j < length ps → later i < later j
    later_up i j l h = omega (arith, (later_in i (omega arith)).1, begins_apart i j l h, begins_at j h, (later_in j h).0)

    sooner_below : (j : ℕ) → j < k → sooner j < d
    sooner_below j h = omega (arith, (sooner_in j (omega arith)).1, p.ends j (omega arith), before j h)

    later_above : (j : ℕ) → k ≤ j → j < length ps → d < later j
    later_above j l h = omega (arith, left_le k j l h, begins_at j h, (later_in j h).0)

    one_more : has d ds ≡ 1 → length ps < nvalue ds
    one_more occurs =
        nvalue_at_least ds (suc (length ps)) different
        (λ i j l h e. grind (arith, nat_tests, sooner_up i j, later_up i j, sooner_below i, sooner_below j, later_above i, later_above j))
        (λ j h. cond_both (ltb j k) (sooner j) (cond (ltb j (length ps)) (later j) d) (λ x. has x ds ≡ 1)
        (λ t. has_day ws ds c (p.witness j) (p.there j (grind (arith, nat_tests))))
        (λ t. cond_both (ltb j (length ps)) (later j) d (λ x. has x ds ≡ 1) (λ u. has_day ws ds c (begins j) (begins_there j (grind (arith, nat_tests)))) (λ u. occurs)))

  -- so the first used day of a lot is one that a choice with the fewest days uses, and none uses an earlier one
  module _ (i day : ℕ) (h : i < length ws) (u : FirstSupport (window_at ws i).low ps qs day) where
    first_support_lem : (ds : List ℕ) × Choice ws ds × HasFewest ws ds × (get_or ds i 0 ≡ day)
    first_support_lem =
        let k = u.place in
        let a = p.holds i h in
        let from : k ≤ a.0 = grind (arith, u.before a.0, a.2.0) in
        let top = meets (suc k) k (omega arith) u.there in
        used k day u.there (omega (arith, u.is)) (omega (arith, u.is, u.reached)) i h
        (omega (arith, u.is), omega (arith, u.is, u.reached, right_le k a.0 from a.1, a.2.1))

    first_kept : (ds : List ℕ) → Choice ws ds → HasFewest ws ds → day ≤ get_or ds i 0
    first_kept ds c few =
        let d = get_or ds i 0 in
        let from = choice_get_or ws ds c i h in
        let e = points_enough ws ps sound p in
        elim (cases_lt d (left u.place)) [
          | inl l ↦
              absurd (omega (
                arith,
                one_more ds c u.place d u.there (λ j b. omega (arith, u.before j b, from.0)) l (has_day ws ds c i h),
                few e.0 e.1,
                e.2,
              ))
          | inr l ↦ omega (arith, u.is, from.0)
        ]

-- a window cut to its first and its last used day; the last one is the first one of the mirror image
pub record SupportEnds (w : Window) (points image : List ℕ) (v : Window) : Type 0 where
  pub low : FirstSupport w.low points image v.low
  pub last : ℕ
  pub high : FirstSupport (flip w.high) image points last
  pub high_is : v.high ≡ flip last

-- one more window cut
pub ends_more : (ws is : List Window) (ps qs : List ℕ) (i : ℕ) (v : Window) → i < length is → ((k : ℕ) → k < i → SupportEnds (window_at ws k) ps qs (window_at is k)) → SupportEnds (window_at ws i) ps qs v
    → (k : ℕ) → k < i + 1 → SupportEnds (window_at ws k) ps qs (window_at (set is i v) k)
ends_more ws is ps qs i v b old new k h =
    elim (cases_eq k i) [
      | inl e ↦
          subst (λ n. SupportEnds (window_at ws n) ps qs (window_at (set is i v) n)) (sym e)
          (subst (SupportEnds (window_at ws i) ps qs) (sym (get_or-set_same is i v (window 0 0) b)) new)
      | inr ne ↦ subst (SupportEnds (window_at ws k) ps qs) (sym (get_or-set_other is i k v (window 0 0) ne)) (old k (omega arith))
    ]

-- windows that are cut to their first and last used days are the smallest that hold every choice with the fewest days
pub ends_hull : (ws : List Window) (ps qs : List ℕ) (is : List Window) → AllByRecursion Sound ws → StabbingPoints ws ps → StabbingPoints (map mirrored ws) qs → length is ≡ length ws
    → ((i : ℕ) → i < length ws → SupportEnds (window_at ws i) ps qs (window_at is i)) → Hull ws (HasFewest ws) is
ends_hull ws ps qs is sound p q each cut =
    let vs = map mirrored ws in
    let long : length vs ≡ length ws = length-map ws mirrored in
    let s = sound_mirrored ws sound in
    let back = points_twice ws ps sound p in
    let low : (i : ℕ) (h : i < length ws) → FirstSupport (window_at ws i).low ps qs (window_at is i).low = λ i h. (cut i h).low in
    let high : (i : ℕ) (h : i < length ws) → FirstSupport (window_at vs i).low qs ps (cut i h).last =
    λ i h. subst (λ w. FirstSupport w.low qs ps (cut i h).last) (sym (image ws i h)) (cut i h).high in
    record {
      each = each;
      low = λ i h. first_support_lem ws ps qs sound p q i (window_at is i).low h (low i h);
      high = λ i h.
          let e = first_support_lem vs qs ps s q back i (cut i h).last (omega (arith, long)) (high i h) in (
            map flip e.0,
            choice_back ws e.0 sound e.1,
            fewest_back ws e.0 sound e.1 e.2,
            get_or-map flip e.0 i 0 0 (omega (arith, choice_length vs e.0 e.1, long)) ∙ ap flip e.3 ∙ sym (cut i h).high_is,
          );
      kept = λ ds c few.
          let all = choice_length ws ds c in
          choice_from_get_or is ds (all ∙ sym each) (λ i b.
          let h : i < length ws = omega (arith, each) in
          let lower = first_kept ws ps qs sound p q i (window_at is i).low h (low i h) ds c few in
          let upper = first_kept vs qs ps s q back i (cut i h).last (omega (arith, long)) (high i h) (map flip ds) (choice_mirrored ws ds c) (fewest_mirrored ws ds sound c few) in
          let at = get_or-map flip ds i 0 0 (omega (arith, all)) in
          let last = (choice_get_or ws ds c i h).1 in
          (lower, omega (arith, upper, at, (cut i h).high_is, last, (sound_at ws sound i h).1)));
    }
