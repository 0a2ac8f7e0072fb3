-- Serving lots in the order of their last days: what holds of the points after so many slots, and that it shows the least count at the end.
use Rattle.std.proofs.Common.{◌≡◌, ℕ, ◌+◌, ◌-◌, ◌<◌, ◌≤◌, ◌⊎◌, List, map, length, get_or, take, drop, set, sym, refl, ap, ◌∙◌, subst, inl, inr, arith}
use Rattle.std.specs.List.Sorted.{IsNonDecreasingBy, IsPermutation}
use Rattle.std.specs.List.{AllByRecursion}
use Rattle.std.proofs.ByRecursion.{All-get_or, All-from_get_or}
use Rattle.std.proofs.lemmas.List.{drop-drop, drop-set-lt, get_or-set_same, get_or-set_other, get_or-take, get_or-map, length-map, length-take-le}
use Rattle.std.proofs.lemmas.Bool.{cases_eq}
use Rattle.store.specs.declared.window.Window.{Window}
use Rattle.store.specs.Windows.{window, window_at}
use Rattle.nvalue.specs.Choices.{In, Choice, Disjoint}
use Rattle.nvalue.specs.Nvalue.{nvalue}
use Rattle.nvalue.proofs.Bounds.{disjoint_bound, disjoint_rising, nvalue_at_most}
use Rattle.nvalue.proofs.Choices.{choice_from_get_or}
use Rattle.extremes.specs.Orders.{slots}
use Rattle.extremes.specs.Stabbing.{lasts, StabbingPoints}
use Rattle.extremes.specs.Shown.{Least}
use Rattle.store.specs.Sound.{Sound}
use Rattle.extremes.proofs.Orders.{length_order, slot_there, slot_high, slot_of}

-- a day that lies in a lot's window and is one of the points; the point of a witness is its window's last day
abbrev pub Served : List Window → List ℕ → ℕ → ℕ → ℕ → Type 0
Served ws lots count i d = In (window_at ws i) d × ((j : ℕ) × (j < count) × ((window_at ws (get_or lots j 0)).high ≡ d))

pub record Pointed (ws : List Window) (order : List (ℕ × ℕ)) (days lots : List ℕ) (t count point : ℕ) : Type 0 where
  pub few : count ≤ t
  pub past : 0 < count → (k : ℕ) × (k < t) × ((get_or order k (0, 0)).0 ≡ point)
  pub last : 0 < count → (window_at ws (get_or lots (count - 1) 0)).high ≡ point
  pub there : (j : ℕ) → j < count → get_or lots j 0 < length ws
  pub apart : (i j : ℕ) → i < j → j < count → (window_at ws (get_or lots i 0)).high < (window_at ws (get_or lots j 0)).low
  pub served : (k : ℕ) → k < t → Served ws lots count (get_or order k (0, 0)).1 (get_or days (get_or order k (0, 0)).1 0)

module _ (ws : List Window) (order : List (ℕ × ℕ)) (days lots : List ℕ) (t count point : ℕ) (p : Pointed ws order days lots t count point)
    (sound : AllByRecursion Sound ws) (shuffled : IsPermutation (slots 0 ws) order) (rises : IsNonDecreasingBy (λ s. s.0) order) (in' : t < length ws)
    (day_each : length days ≡ length ws) (room : length ws ≤ length lots) where
  abbrev place : ℕ
  place = (get_or order t (0, 0)).1

  abbrev high : ℕ
  high = (get_or order t (0, 0)).0

  here : place < length ws
  here = slot_there ws order shuffled t in'

  -- the last point does not lie past the window of the next lot
  ahead : 0 < count → point ≤ high
  ahead some =
      let e = p.past some in
      subst (λ n. n ≤ high) e.2 (rises e.0 t (0, 0) (omega (arith, e.1)) (omega (arith, length_order ws order shuffled)))

  -- a slot of another lot is an earlier one
  before : (k : ℕ) → k < t + 1 → ((get_or order k (0, 0)).1 ≡ place → ⊥) → k < t
  before k h ne =
      elim (cases_eq k t) [ inl e ↦ absurd (ne (ap (λ n. (get_or order n (0, 0)).1) e)) | inr other ↦ omega arith ]

  -- a witness keeps its window before the last point
  behind : 0 < count → (i : ℕ) → i < count → (window_at ws (get_or lots i 0)).high ≤ point
  behind some i h =
      elim (cases_eq i (count - 1)) [
        | inl e ↦ subst (λ n. (window_at ws (get_or lots n 0)).high ≤ point) (sym e) (omega (arith, p.last some))
        | inr ne ↦
            let s = All-get_or Sound ws (get_or lots (count - 1) 0) (window 0 0) (p.there (count - 1) (omega arith)) sound in
            omega (arith, p.apart i (count - 1) (omega arith) (omega arith), p.last some, s.0)
      ]

  -- what an earlier lot was served stays good, whatever the next lot gets
  keep : (c' : ℕ) (lots' : List ℕ) (d : ℕ) → count ≤ c' → ((j : ℕ) → j < count → get_or lots' j 0 ≡ get_or lots j 0)
      → Served ws lots' c' place d → (k : ℕ) → k < t + 1 → Served ws lots' c' (get_or order k (0, 0)).1 (get_or (set days place d) (get_or order k (0, 0)).1 0)
  keep c' lots' d more same new k h =
      let i = (get_or order k (0, 0)).1 in
      elim (cases_eq i place) [
        | inl e ↦
            let at : get_or (set days place d) place 0 ≡ d = get_or-set_same days place d 0 (omega (arith, here)) in
            subst (λ n. Served ws lots' c' n (get_or (set days place d) n 0)) (sym e) (subst (Served ws lots' c' place) (sym at) new)
        | inr ne ↦
            let old = p.served k (before k h ne) in
            let at : get_or (set days place d) i 0 ≡ get_or days i 0 = get_or-set_other days place i d 0 ne in
            subst (Served ws lots' c' i) (sym at)
            (old.0, (old.1.0, omega (arith, old.1.1), ap (λ l. (window_at ws l).high) (same old.1.0 old.1.1) ∙ old.1.2))
      ]

  -- a lot that begins past the last point opens a new one
  pub opens : (count ≡ 0) ⊎ (point < (window_at ws place).low) → Pointed ws order (set days place high) (set lots count place) (t + 1) (count + 1) high
  opens past =
      let n : count < length lots = omega (arith, p.few) in
      let new : get_or (set lots count place) count 0 ≡ place = get_or-set_same lots count place 0 n in
      let old : (j : ℕ) → j < count → get_or (set lots count place) j 0 ≡ get_or lots j 0 =
      λ j h. get_or-set_other lots count j place 0 (λ e. omega arith) in
      let top : (window_at ws (get_or (set lots count place) count 0)).high ≡ high =
      ap (λ l. (window_at ws l).high) new ∙ sym (slot_high ws order shuffled t in') in
      let s = All-get_or Sound ws place (window 0 0) here sound in
      let h = slot_high ws order shuffled t in' in
      record {
        few = omega (arith, p.few);
        past = λ _. (t, omega arith, refl);
        last = λ _. let e : count + 1 - 1 ≡ count = omega arith in subst (λ m. (window_at ws (get_or (set lots count place) m 0)).high ≡ high) (sym e) top;
        there = λ j b. elim (cases_eq j count) [
          | inl e ↦ subst (λ m. get_or (set lots count place) m 0 < length ws) (sym e) (subst (λ l. l < length ws) (sym new) here)
          | inr ne ↦ subst (λ l. l < length ws) (sym (old j (omega arith))) (p.there j (omega arith))
        ];
        apart = λ i j l b. elim (cases_eq j count) [
          | inl e ↦
              subst (λ m. (window_at ws (get_or (set lots count place) i 0)).high < (window_at ws (get_or (set lots count place) m 0)).low) (sym e)
              (subst (λ a. (window_at ws a).high < (window_at ws (get_or (set lots count place) count 0)).low) (sym (old i (omega arith)))
              (subst (λ a. (window_at ws (get_or lots i 0)).high < (window_at ws a).low) (sym new)
              (elim past [ inl z ↦ absurd (omega arith) | inr q ↦ omega (arith, behind (omega arith) i (omega arith)) ])))
          | inr ne ↦
              subst (λ a. (window_at ws a).high < (window_at ws (get_or (set lots count place) j 0)).low) (sym (old i (omega arith)))
              (subst (λ a. (window_at ws (get_or lots i 0)).high < (window_at ws a).low) (sym (old j (omega arith))) (p.apart i j l (omega arith)))
        ];
        served = keep (count + 1) (set lots count place) high (omega arith) old ((omega (arith, s.0, h), omega (arith, h)), (count, omega arith, top));
      }

  -- any other lot takes the last point
  pub joins : 0 < count → (window_at ws place).low ≤ point → Pointed ws order (set days place point) lots (t + 1) count point
  joins some low =
      let e = p.past some in
      record {
        few = omega (arith, p.few);
        past = λ _. (e.0, omega (arith, e.1), e.2);
        last = p.last;
        there = p.there;
        apart = p.apart;
        served = keep count lots point (omega arith) (λ j h. refl)
            ((low, omega (arith, ahead some, slot_high ws order shuffled t in')), (count - 1, omega arith, p.last some));
      }

-- one more written leaves what comes after it
pub rest_more : (lots was : List ℕ) (count lot : ℕ) → drop count lots ≡ drop count was → drop (count + 1) (set lots count lot) ≡ drop (count + 1) was
rest_more lots was count lot e =
    drop-set-lt (count + 1) lots count lot (omega arith) ∙ sym (drop-drop 1 count lots) ∙ ap (drop 1) e ∙ drop-drop 1 count was

-- once every slot is served, the points show the least count
module _ (ws : List Window) (order : List (ℕ × ℕ)) (days lots : List ℕ) (count point : ℕ) (p : Pointed ws order days lots (length ws) count point)
    (shuffled : IsPermutation (slots 0 ws) order) (day_each : length days ≡ length ws) (room : length ws ≤ length lots) where
  served : (i : ℕ) → i < length ws → Served ws lots count i (get_or days i 0)
  served i h =
      let s = slot_of ws order shuffled i h in
      subst (λ n. Served ws lots count n (get_or days n 0)) s.2 (p.served s.0 s.1)

  many : length (take count lots) ≡ count
  many = length-take-le count lots (omega (arith, p.few))

  named : (j : ℕ) → j < count → get_or (take count lots) j 0 ≡ get_or lots j 0
  named j h = get_or-take count lots j 0 h

  shown : (j : ℕ) → j < count → window_at (map (window_at ws) (take count lots)) j ≡ window_at ws (get_or lots j 0)
  shown j h = get_or-map (window_at ws) (take count lots) j 0 (window 0 0) (omega (arith, many)) ∙ ap (window_at ws) (named j h)

  all_there : AllByRecursion (λ lot. lot < length ws) (take count lots)
  all_there = All-from_get_or _ (take count lots) 0 (λ j h. subst (λ l. l < length ws) (sym (named j (omega (arith, many)))) (p.there j (omega (arith, many))))

  apart : Disjoint (map (window_at ws) (take count lots))
  apart = disjoint_rising _ (λ i j l h.
      let b : j < count = omega (arith, many, length-map (take count lots) (window_at ws)) in
      subst (λ w. w.high < (window_at (map (window_at ws) (take count lots)) j).low) (sym (shown i (omega arith)))
      (subst (λ w. (window_at ws (get_or lots i 0)).high < w.low) (sym (shown j b)) (p.apart i j l b)))

  chosen : Choice ws days
  chosen = choice_from_get_or ws days day_each (λ i h. (served i h).0)

  bound : (ds : List ℕ) → Choice ws ds → count ≤ nvalue ds
  bound ds c = omega (arith, disjoint_bound ws ds (take count lots) c all_there apart, many)

  pub pointed_least : Least ws days (take count lots) count
  pointed_least =
      let top = nvalue_at_most days count (λ j. (window_at ws (get_or lots j 0)).high) (λ i h. (served i (omega arith)).1) in
      record {
        choice = chosen;
        count = omega (arith, top, bound days chosen);
        many = many;
        there = all_there;
        disjoint = apart;
        least = bound;
      }

  -- and are as few as can be
  pub pointed_points : StabbingPoints ws (lasts ws (take count lots))
  pointed_points =
      let long : length (lasts ws (take count lots)) ≡ count = length-map _ _ ∙ many in
      let at : (j : ℕ) → j < count → get_or (lasts ws (take count lots)) j 0 ≡ (window_at ws (get_or lots j 0)).high =
      λ j h. get_or-map (λ lot. (window_at ws lot).high) (take count lots) j 0 0 (omega (arith, many)) ∙ ap (λ lot. (window_at ws lot).high) (named j h) in
      record {
        holds = λ i h.
            let s = served i h in
            (s.1.0, omega (arith, s.1.1, long), subst (In (window_at ws i)) (sym (at s.1.0 s.1.1 ∙ s.1.2)) s.0);
        witness = λ j. get_or lots j 0;
        there = λ j h. p.there j (omega (arith, long));
        ends = λ j h. sym (at j (omega (arith, long)));
        apart = λ i j l h. omega (arith, at i (omega (arith, long)), p.apart i j l (omega (arith, long)));
      }
