-- One rule's tightest windows: which choices a count window keeps, and which ends they use.
use Rattle.std.proofs.Common.{◌≡◌, ℕ, ◌+◌, ◌<◌, ◌≤◌, min, max, ◌⊎◌, List, length, get_or, set, Some, None, Option, sym, refl, ap, ◌∙◌, subst, inl, inr, arith, MatchOption}
use Rattle.std.specs.List.{AllByRecursion}
use Rattle.std.proofs.ByRecursion.{All-get_or}
use Rattle.std.proofs.lemmas.List.{get_or_past, get_or-set_same}
use Rattle.std.proofs.lemmas.Bool.{cases_lt}
use Rattle.store.specs.declared.window.Window.{Window}
use Rattle.store.specs.Windows.{window, window_at}
use Rattle.nvalue.specs.Choices.{Choice, In}
use Rattle.nvalue.specs.Nvalue.{nvalue, Counts}
use Rattle.nvalue.proofs.Choices.{choice_length, choice_set, counts_between}
use Rattle.nvalue.proofs.Nvalue.{nvalue_set, nvalue_unset}
use Rattle.nvalue.specs.declared.count_window.CountWindow.{CountWindow}
use Rattle.extremes.specs.Shown.{HasFewest, HasMost, IsGreatest, IsLeast}
use Rattle.store.specs.Sound.{Sound}
use Rattle.propagator.specs.Tight.{Hull, Tightest}

-- the same hull, where P and Q hold of the same choices
pub hull_like : (ws is : List Window) (P Q : List ℕ → Type 0) → ((ds : List ℕ) → Choice ws ds → P ds → Q ds) → ((ds : List ℕ) → Choice ws ds → Q ds → P ds) → Hull ws P is → Hull ws Q is
hull_like ws is P Q to from h = record {
  each = h.each;
  low = λ i b. let u = h.low i b in (u.0, u.1, to u.0 u.1 u.2, u.3);
  high = λ i b. let u = h.high i b in (u.0, u.1, to u.0 u.1 u.2, u.3);
  kept = λ ds c q. h.kept ds c (from ds c q);
}

module _ (ws : List Window) (least most floor ceiling : ℕ) (lo : IsLeast ws least) (hi : IsGreatest ws most) (ordered : floor ≤ ceiling) where
  -- every count from the least to the greatest is the count of a choice
  reaches : (k : ℕ) → least ≤ k → k ≤ most → (ds : List ℕ) × Choice ws ds × (nvalue ds ≡ k)
  reaches k a b =
      let l = lo.reached in
      let h = hi.reached in
      let past : (ds : List ℕ) → Choice ws ds → get_or ds (length ws) 0 ≡ 0 = λ ds c. get_or_past ds (length ws) 0 (omega (arith, choice_length ws ds c)) in
      let z = counts_between ws l.0 h.0 (length ws) k l.1 h.1 (past l.0 l.1 ∙ sym (past h.0 h.1)) (omega (arith, l.2)) (omega (arith, h.2)) in
      (z.0, z.1, z.3)

  -- where neither end of the count window is tight, or all choices have one count, every day of a window is used
  used : ((least < ceiling) × (floor < most)) ⊎ (least ≡ most) → least ≤ ceiling → floor ≤ most → (i d : ℕ) → i < length ws → In (window_at ws i) d
      → (ds : List ℕ) × Choice ws ds × Counts floor ceiling ds × (get_or ds i 0 ≡ d)
  used slack a b i d h in' =
      let l = lo.reached in
      let g = hi.reached in
      let xs = set l.0 i d in
      let ys = set g.0 i d in
      let cx = choice_set ws l.0 i d l.1 (λ _. in') in
      let cy = choice_set ws g.0 i d g.1 (λ _. in') in
      let ex : get_or xs i 0 ≡ d = get_or-set_same l.0 i d 0 (omega (arith, choice_length ws l.0 l.1)) in
      let ey : get_or ys i 0 ≡ d = get_or-set_same g.0 i d 0 (omega (arith, choice_length ws g.0 g.1)) in
      let up : nvalue xs ≤ least + 1 = omega (arith, nvalue_set l.0 i d, l.2) in
      let down : most ≤ nvalue ys + 1 = omega (arith, nvalue_unset g.0 i d, g.2) in
      elim (cases_lt (nvalue xs) floor) [
        | inr x ↦ (xs, cx, (x, elim slack [ inl s ↦ omega (arith, s.0) | inr e ↦ omega (arith, hi.greatest xs cx) ]), ex)
        | inl x ↦ elim (cases_lt ceiling (nvalue ys)) [
          | inr y ↦ (ys, cy, (elim slack [ inl s ↦ omega (arith, s.1) | inr e ↦ omega (arith, lo.least ys cy) ], y), ey)
          | inl y ↦
              let z = counts_between ws xs ys i floor cx cy (ex ∙ sym ey) (omega arith) (omega arith) in
              (z.0, z.1, (omega (arith, z.3), omega (arith, z.3)), z.2 ∙ ex)
        ]
      ]

  -- so the windows stay
  pub stays : ((least < ceiling) × (floor < most)) ⊎ (least ≡ most) → least ≤ ceiling → floor ≤ most → AllByRecursion Sound ws → Hull ws (Counts floor ceiling) ws
  stays slack a b sound = record {
    each = refl;
    low = λ i h. let s = All-get_or Sound ws i (window 0 0) h sound in used slack a b i (window_at ws i).low h (omega arith, s.0);
    high = λ i h. let s = All-get_or Sound ws i (window 0 0) h sound in used slack a b i (window_at ws i).high h (s.0, omega arith);
    kept = λ ds c k. c;
  }

  -- a ceiling at the least count keeps the choices with the fewest days
  pub at_ceiling : ceiling ≡ least → (is : List Window) → Hull ws (HasFewest ws) is → Hull ws (Counts floor ceiling) is
  at_ceiling e is =
      hull_like ws is (HasFewest ws) (Counts floor ceiling)
      (λ ds c p. let l = lo.reached in (omega (arith, lo.least ds c), omega (arith, p l.0 l.1, l.2)))
      (λ ds c k es d. omega (arith, lo.least es d, k.1))

  -- a floor at the greatest count keeps the choices with the most days
  pub at_floor : floor ≡ most → (is : List Window) → Hull ws (HasMost ws) is → Hull ws (Counts floor ceiling) is
  at_floor e is =
      hull_like ws is (HasMost ws) (Counts floor ceiling)
      (λ ds c p. let h = hi.reached in (omega (arith, p h.0 h.1, h.2), omega (arith, hi.greatest ds c)))
      (λ ds c k es d. omega (arith, hi.greatest es d, k.0))

  -- the count window shrinks to the counts that are reached
  pub tightest : least ≤ ceiling → floor ≤ most → (is : List Window) → Hull ws (Counts floor ceiling) is → Tightest ws floor ceiling is (max floor least) (min ceiling most)
  tightest a b is hull =
      let low = reaches (max floor least) (omega arith) (omega (arith, lo.least hi.reached.0 hi.reached.1, hi.reached.2)) in
      let high = reaches (min ceiling most) (omega (arith, hi.greatest lo.reached.0 lo.reached.1, lo.reached.2)) (omega arith) in
      record {
        hull = hull;
        least_is = (low.0, low.1, (omega (arith, low.2), omega (arith, low.2)), low.2);
        most_is = (high.0, high.1, (omega (arith, high.2), omega (arith, high.2)), high.2);
        between = λ ds c k. (omega (arith, k.0, lo.least ds c), omega (arith, k.1, hi.greatest ds c));
      }

-- a count window made of the shrunk ends is the answer
pub answered : (X : Type 0) (ws is : List Window) (floor ceiling f c : ℕ) (o : Option CountWindow) → MatchOption o (c < f) (λ w. (w.floor ≡ f) × (w.ceiling ≡ c)) → f ≤ c → Tightest ws floor ceiling is f c
    → MatchOption o X (λ w. Tightest ws floor ceiling is w.floor w.ceiling)
answered X ws is floor ceiling f c None n le t = absurd (omega arith)
answered X ws is floor ceiling f c (Some w) e le t =
    subst (λ n. Tightest ws floor ceiling is n w.ceiling) (sym e.0) (subst (λ n. Tightest ws floor ceiling is f n) (sym e.1) t)

-- the same from the numbers as a function has them
module _ (ws is : List Window) (least most fl ce floor ceiling f c : ℕ) (lo : IsLeast ws least) (hi : IsGreatest ws most) (ordered : floor ≤ ceiling)
    (fl_is : fl ≡ floor) (ce_is : ce ≡ ceiling) (f_is : f ≡ max fl least) (c_is : c ≡ min ce most) where
  pub tightened : (X : Type 0) → least ≤ ce → fl ≤ most → Hull ws (Counts fl ce) is → (o : Option CountWindow) → MatchOption o (c < f) (λ w. (w.floor ≡ f) × (w.ceiling ≡ c))
      → MatchOption o X (λ w. Tightest ws floor ceiling is w.floor w.ceiling)
  tightened X a b hull o made =
      let h : Hull ws (Counts floor ceiling) is = subst (λ n. Hull ws (Counts n ceiling) is) fl_is (subst (λ n. Hull ws (Counts fl n) is) ce_is hull) in
      let t = tightest ws least most floor ceiling lo hi ordered (omega arith) (omega arith) is h in
      let ef : f ≡ max floor least = f_is ∙ ap (λ n. max n least) fl_is in
      let ec : c ≡ min ceiling most = c_is ∙ ap (λ n. min n most) ce_is in
      answered X ws is floor ceiling f c o made (omega (arith, lo.least hi.reached.0 hi.reached.1, hi.reached.2))
      (subst (λ n. Tightest ws floor ceiling is n c) (sym ef) (subst (λ n. Tightest ws floor ceiling is (max floor least) n) (sym ec) t))
