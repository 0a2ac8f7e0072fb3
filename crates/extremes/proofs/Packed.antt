-- Lots that take days one after the other: what ties the takers, the left-over windows, the runs and the chosen days, and how a turn keeps it.
use Rattle.std.proofs.Common.{◌≡◌, ℕ, ◌+◌, ◌-◌, ◌<◌, ◌≤◌, Bool, true, false, cond, ◌&&◌, eqb, leb, List, [], ◌∷◌, length, get_or, set, sym, refl, ap, ◌∙◌, subst, inl, inr, arith, below_more}
use Rattle.std.specs.List.{AllByRecursion}
use Rattle.std.specs.List.Sorted.{IsPermutation}
use Rattle.std.proofs.ByRecursion.{All-weaker}
use Rattle.std.proofs.lemmas.List.{get_or-set_same, get_or-set_other}
use Rattle.std.proofs.lemmas.Bool.{cases_eq, cases_lt}
use Rattle.std.proofs.lemmas.Bool.Decides.{nat_tests}
use Rattle.store.specs.declared.window.Window.{Window}
use Rattle.store.specs.Windows.{window, window_at}
use Rattle.nvalue.specs.Choices.{In, load}
use Rattle.nvalue.specs.Nvalue.{has, nvalue}
use Rattle.nvalue.proofs.Nvalue.{has_le_one}
use Rattle.extremes.specs.Orders.{slots}
use Rattle.extremes.specs.Flags.{Set, Unset}
use Rattle.extremes.proofs.Orders.{length_order, slot_there}

-- a lot that has taken a day: its window, and the day
abbrev pub Taker : Type 0
Taker = Window × ℕ

abbrev pub days_of : List Taker → List ℕ
days_of [] = []
days_of (t ∷ ts) = t.1 ∷ days_of ts

abbrev pub windows_of : List Taker → List Window
windows_of [] = []
windows_of (t ∷ ts) = t.0 ∷ windows_of ts

abbrev pub inside : Window → Window → Bool
inside run w = leb run.low w.low && leb w.high run.high

-- the days of the takers whose windows lie inside a run
abbrev pub within : Window → List Taker → List ℕ
within run [] = []
within run (t ∷ ts) = cond (inside run t.0) (t.1 ∷ within run ts) (within run ts)

pub has_within : (run : Window) (e : ℕ) (t : Taker) (ts : List Taker) → has e (within run (t ∷ ts)) ≡ cond (inside run t.0 && eqb e t.1) 1 (has e (within run ts))
has_within run e t ts =
    let P : Bool → Type 0 = λ b. has e (cond b (t.1 ∷ within run ts) (within run ts)) ≡ cond (b && eqb e t.1) 1 (has e (within run ts)) in
    elim (inside run t.0) as P [ true ↦ refl | false ↦ refl ]

pub has_within_le : (run : Window) (e : ℕ) (ts : List Taker) → has e (within run ts) ≤ has e (days_of ts)
has_within_le run e [] = omega arith
has_within_le run e (t ∷ ts) =
    let h = has_within_le run e ts in
    let w = has_within run e t ts in
    grind (arith, nat_tests, has_le_one)

-- a taker's window ends no later than the last one, and the days of it before its day are taken
abbrev pub Early : List ℕ → ℕ → Taker → Type 0
Early days last t = (t.0.high ≤ last) × ((e : ℕ) → t.0.low ≤ e → e < t.1 → has e days ≡ 1)

-- a run whose days are all taken by lots inside it, with a lot left over inside it
abbrev pub Full : List Taker → List Window → Window → Type 0
Full ts os run = ((e : ℕ) → run.low ≤ e → e ≤ run.high → has e (within run ts) ≡ 1) × (1 ≤ load run os)

-- a left-over window ends no later than the last one, and lies inside a run
abbrev pub Held : List Window → ℕ → ℕ → Window → Type 0
Held runs top last w = (w.high ≤ last) × ((k : ℕ) × (k < top) × ((window_at runs k).low ≤ w.low) × (w.high ≤ (window_at runs k).high))

-- what holds of each of the first runs, and of one that is put after them, holds of each of the runs with it
runs_push : (Q : Window → Type 0) (runs : List Window) (i : ℕ) (run : Window) → i < length runs → ((k : ℕ) → k < i → Q (window_at runs k)) → Q run → (k : ℕ) → k < i + 1 → Q (window_at (set runs i run) k)
runs_push Q runs i run l old new =
    below_more
    (λ k. Q (window_at (set runs i run) k))
    i
    (λ k h. subst Q (sym (get_or-set_other runs i k run (window 0 0) (λ e. omega arith))) (old k h))
    (subst Q (sym (get_or-set_same runs i run (window 0 0) l)) new)

-- the takers, the left-over windows and the runs fit the days taken
pub record Packed (taken : List Bool) (runs : List Window) (top : ℕ) (ts : List Taker) (os : List Window) (last : ℕ) : Type 0 where
  pub marks : (d : ℕ) → cond (get_or taken d false) 1 0 ≡ has d (days_of ts)
  pub apart : nvalue (days_of ts) ≡ length ts
  pub early : AllByRecursion (Early (days_of ts) last) ts
  pub held : AllByRecursion (Held runs top last) os
  pub full : (k : ℕ) → k < top → Full ts os (window_at runs k)
  pub rising : (j k : ℕ) → j < k → k < top → (window_at runs j).high < (window_at runs k).low

-- a lot takes the first free day of its window
module _ (taken : List Bool) (runs : List Window) (top : ℕ) (ts : List Taker) (os : List Window) (last : ℕ) (p : Packed taken runs top ts os last) (w : Window) (later : last ≤ w.high) where
  pub packed_takes : (d : ℕ) → d < length taken → Unset taken d → ((e : ℕ) → w.low ≤ e → e < d → Set taken e) → Packed (set taken d true) runs top ((w, d) ∷ ts) os w.high
  packed_takes d l free first = record {
    marks = λ e.
        let m = p.marks e in
        let s = get_or-set_same taken d true false l in
        let o = get_or-set_other taken d e true false in
        grind (arith, nat_tests, cases_eq e d);
    apart = let m = p.marks d in let a = p.apart in grind arith;
    early = (
      (omega arith, λ e a b. let f = first e a b in let m = p.marks e in grind (arith, nat_tests)),
      All-weaker (Early (days_of ts) last) (Early (d ∷ days_of ts) w.high) (λ t h. (omega arith, λ e a b. let g = h.1 e a b in grind (arith, nat_tests))) ts p.early,
    );
    held = All-weaker (Held runs top last) (Held runs top w.high) (λ v h. (omega arith, h.1)) os p.held;
    full = λ k b. (λ e i j. let f = (p.full k b).0 e i j in let h = has_within (window_at runs k) e (w, d) ts in grind (arith, nat_tests), (p.full k b).1);
    rising = p.rising;
  }

  -- no day of the window is free: the run of taken days from `start` to the window's last day is put in the place of the runs from `top'` on
  module _ (start top' : ℕ) (room : top' < length runs) (wide : start ≤ w.low) (taken_all : (d : ℕ) → start ≤ d → d ≤ w.high → Set taken d) (edge : 0 < start → Unset taken (start - 1)) where
    edge_free : 0 < start → has (start - 1) (days_of ts) ≡ 0
    edge_free h = let f = edge h in let m = p.marks (start - 1) in grind arith

    -- takers of days of the run have their windows inside it
    run_filled : (e : ℕ) → start ≤ e → e ≤ w.high → (us : List Taker) → AllByRecursion (Early (days_of ts) last) us → has e (days_of us) ≤ has e (within (window start w.high) us)
    run_filled e a b [] h = omega arith
    run_filled e a b (u ∷ us) (h, hs) =
        let rest = run_filled e a b us hs in
        let g = has_within (window start w.high) e u us in
        let f = edge_free in
        let before = h.1 (start - 1) in
        let ends = h.0 in
        grind (arith, nat_tests, has_le_one)

    -- a run that begins before the new one ends before it, since the day before the new one is free
    ends_before : (j : ℕ) → j < top → (window_at runs j).low < start → (window_at runs j).high < start
    ends_before j b l =
        let f = (p.full j b).0 (start - 1) in
        let i = has_within_le (window_at runs j) (start - 1) ts in
        let free = edge_free in
        grind arith

    -- so the runs that are left end before the new one
    all_end_before : top' ≤ top → (0 < top' → (window_at runs (top' - 1)).low < start) → (j : ℕ) → j < top' → (window_at runs j).high < start
    all_end_before fewer left j b =
        let last_run = ends_before (top' - 1) (omega arith) (left (omega arith)) in
        let earlier : j < top' - 1 → (window_at runs j).high < start = λ l. omega (arith, p.rising j (top' - 1) l (omega arith), left (omega arith)) in
        elim (cases_lt j (top' - 1)) [
          | inl l ↦ earlier l
          | inr l ↦ let e : top' - 1 ≡ j = omega arith in subst (λ k. (window_at runs k).high < start) e last_run
        ]

    -- the runs after the turn
    abbrev runs' : List Window
    runs' = set runs top' (window start w.high)

    old_run : (k : ℕ) → k < top' → window_at runs' k ≡ window_at runs k
    old_run k h = get_or-set_other runs top' k (window start w.high) (window 0 0) (λ e. omega arith)

    new_run : window_at runs' top' ≡ window start w.high
    new_run = get_or-set_same runs top' (window start w.high) (window 0 0) room

    -- what lay in a run that is gone lies in the new one
    still_held : ((k : ℕ) → top' ≤ k → k < top → start ≤ (window_at runs k).low) → (v : Window) → Held runs top last v → Held runs' (top' + 1) w.high v
    still_held gone v (before, (k, b, l, h)) =
        elim (cases_lt k top') [
          | inl c ↦ (omega arith, (k, omega arith, omega (arith, ap (λ r. r.low) (old_run k c)), omega (arith, ap (λ r. r.high) (old_run k c))))
          | inr c ↦ (omega arith, (top', omega arith, omega (arith, ap (λ r. r.low) new_run, gone k c b), omega (arith, ap (λ r. r.high) new_run)))
        ]

    pub packed_leaves : top' ≤ top → ((k : ℕ) → top' ≤ k → k < top → start ≤ (window_at runs k).low) → (0 < top' → (window_at runs (top' - 1)).low < start) → Packed taken (set runs top' (window start w.high)) (top' + 1) ts (w ∷ os) w.high
    packed_leaves fewer gone left = record {
      marks = p.marks;
      apart = p.apart;
      early = All-weaker (Early (days_of ts) last) (Early (days_of ts) w.high) (λ t h. (omega arith, h.1)) ts p.early;
      held = (
        (omega arith, (top', omega arith, omega (arith, ap (λ r. r.low) new_run), omega (arith, ap (λ r. r.high) new_run))),
        All-weaker (Held runs top last) (Held runs' (top' + 1) w.high) (still_held gone) os p.held,
      );
      full =
          runs_push
          (Full ts (w ∷ os))
          runs
          top'
          (window start w.high)
          room
          (λ k b. let f = p.full k (omega arith) in (f.0, omega (arith, f.1)))
          (λ e a b. let m = p.marks e in let t = taken_all e a b in let f = run_filled e a b ts p.early in grind (arith, nat_tests, has_le_one), grind (arith, nat_tests));
      rising = λ j k a b.
          let after = all_end_before fewer left j (omega arith) in
          let same : (window_at runs' j).high ≡ (window_at runs j).high = ap (λ r. r.high) (old_run j (omega arith)) in
          elim (cases_lt k top') [
            | inl l ↦ omega (arith, same, ap (λ r. r.low) (old_run k l), p.rising j k a (omega arith))
            | inr l ↦ let e : top' ≡ k = omega arith in subst (λ i. (window_at runs' j).high < (window_at runs' i).low) e (omega (arith, same, ap (λ r. r.low) new_run))
          ];
    }

-- the lot that a slot names
abbrev pub lot_in_file : List (ℕ × ℕ) → ℕ → ℕ
lot_in_file order k = (get_or order k (0, 0)).1

-- each lot of the file is one of the windows'
pub names_lot : (ws : List Window) (order : List (ℕ × ℕ)) → IsPermutation (slots 0 ws) order → (t : ℕ) → t < length order → lot_in_file order t < length ws
names_lot ws order shuffled t l = slot_there ws order shuffled t (omega (arith, length_order ws order shuffled))

-- the lots of the first slots have their days, each inside its window, and these are the days taken
pub record Chosen (ws : List Window) (order : List (ℕ × ℕ)) (t : ℕ) (days taken_days : List ℕ) : Type 0 where
  pub chosen : (k : ℕ) → k < t → In (window_at ws (lot_in_file order k)) (get_or days (lot_in_file order k) 0)
  pub known : (k : ℕ) → k < t → has (get_or days (lot_in_file order k) 0) taken_days ≡ 1
  pub used : (d : ℕ) → has d taken_days ≡ 1 → (k : ℕ) × (k < t) × (get_or days (lot_in_file order k) 0 ≡ d)

-- the lot of the next slot gets its day
pub chosen_more : (ws : List Window) (order : List (ℕ × ℕ)) (t : ℕ) (days was is : List ℕ) (d : ℕ) → Chosen ws order t days was
    → ((k : ℕ) → k < t → lot_in_file order k ≡ lot_in_file order t → ⊥)
    → lot_in_file order t < length days
    → In (window_at ws (lot_in_file order t)) d
    → ((x : ℕ) → has x is ≡ cond (eqb x d) 1 (has x was))
    → Chosen ws order (t + 1) (set days (lot_in_file order t) d) is
chosen_more ws order t days was is d c other there inside-it grown =
    let place : ℕ → ℕ = lot_in_file order in
    let days' = set days (place t) d in
    let old : (k : ℕ) → k < t → get_or days (place k) 0 ≡ get_or days' (place k) 0 = λ k l. sym (get_or-set_other days (place t) (place k) d 0 (other k l)) in
    let new : d ≡ get_or days' (place t) 0 = sym (get_or-set_same days (place t) d 0 there) in
    let still : (x : ℕ) → has x was ≡ 1 → has x is ≡ 1 = λ x h. let g = grown x in grind (arith, nat_tests) in
    record {
      chosen = below_more (λ k. In (window_at ws (place k)) (get_or days' (place k) 0)) t (λ k l. subst (In (window_at ws (place k))) (old k l) (c.chosen k l)) (subst (In (window_at ws (place t))) new inside-it);
      known =
          below_more
          (λ k. has (get_or days' (place k) 0) is ≡ 1)
          t
          (λ k l. subst (λ x. has x is ≡ 1) (old k l) (still (get_or days (place k) 0) (c.known k l)))
          (subst (λ x. has x is ≡ 1) new (let g = grown d in grind (arith, nat_tests)));
      used = λ x h.
          let was_used : has x was ≡ 1 → (k : ℕ) × (k < t + 1) × (get_or days' (place k) 0 ≡ x) = λ e. let u = c.used x e in (u.0, omega (arith, u.1), sym (old u.0 u.1) ∙ u.2) in
          elim (cases_eq x d) [
            | inl e ↦ (t, omega arith, sym new ∙ sym e)
            | inr n ↦ was_used (let g = grown x in grind (arith, nat_tests))
          ];
    }
