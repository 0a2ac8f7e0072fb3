-- A packing of all lots shows the greatest count: its days are a choice with that count, and its runs are violated by the lots left over.
use Rattle.std.proofs.Common.{◌≡◌, ℕ, suc, ◌+◌, ◌<◌, ◌≤◌, Bool, true, false, cond, List, [], ◌∷◌, length, get_or, take, sum_by, sym, refl, ap, ◌∙◌, subst, arith}
use Rattle.std.specs.List.Sorted.{IsPermutation}
use Rattle.std.specs.List.{ContainsAt as Has, AllByRecursion}
use Rattle.std.proofs.ByRecursion.{All-from_get_or, has_get_or}
use Rattle.std.proofs.lemmas.List.{get_or-take, length-take-le, take_all}
use Rattle.std.proofs.lemmas.List.Sums.{get_or-le-sum_by, sum_by-cons}
use Rattle.std.proofs.lemmas.Bool.Decides.{nat_tests}
use Rattle.store.specs.declared.window.Window.{Window}
use Rattle.store.specs.Windows.{window, window_at}
use Rattle.nvalue.specs.Choices.{In, Choice, Disjoint, size, load, Violated, surplus}
use Rattle.nvalue.specs.Nvalue.{has, nvalue}
use Rattle.nvalue.proofs.Bounds.{disjoint_rising, nvalue_at_least, violated_bound}
use Rattle.nvalue.proofs.Choices.{choice_from_get_or}
use Rattle.nvalue.proofs.Nvalue.{has_from, nvalue_le_length, nvalue_mono, within_members}
use Rattle.extremes.specs.declared.matching.Most.{Most}
use Rattle.extremes.specs.Orders.{slots}
use Rattle.extremes.specs.Shown.{Greatest}
use Rattle.extremes.proofs.Orders.{length_order, slot_of, slot_there, sum_order}
use Rattle.extremes.proofs.Packed.{Taker, days_of, windows_of, inside, within, Held, lot_in_file}
use Rattle.extremes.proofs.Packing.{Packing}

-- a load is a sum over the windows, and so is a length
load_sum : (run : Window) (ws : List Window) → load run ws ≡ sum_by (λ w. cond (inside run w) 1 0) ws
load_sum run [] = refl
load_sum run (w ∷ ws) = let h = load_sum run ws in omega (arith, sum_by-cons (λ v. cond (inside run v) 1 0) w ws)

length_sum : (ws : List Window) → length ws ≡ sum_by (λ w. 1) ws
length_sum [] = refl
length_sum (w ∷ ws) = let h = length_sum ws in omega (arith, sum_by-cons (λ v. 1) w ws)

length_windows : (ts : List Taker) → length (windows_of ts) ≡ length ts
length_windows [] = refl
length_windows (t ∷ ts) = ap suc (length_windows ts)

length_within : (run : Window) (ts : List Taker) → length (within run ts) ≡ load run (windows_of ts)
length_within run [] = refl
length_within run (t ∷ ts) =
    let h = length_within run ts in
    let P : Bool → Type 0 = λ b. length (cond b (t.1 ∷ within run ts) (within run ts)) ≡ cond b 1 0 + load run (windows_of ts) in
    elim (inside run t.0) as P [ true ↦ omega arith | false ↦ omega arith ]

-- a run whose days are all taken by lots inside it has at least as many lots inside it as days
full_load : (run : Window) (ts : List Taker) → ((e : ℕ) → run.low ≤ e → e ≤ run.high → has e (within run ts) ≡ 1) → size run ≤ load run (windows_of ts)
full_load run ts f =
    let n = nvalue_at_least (within run ts) (size run) (λ i. run.low + i) (λ i j a b e. omega arith) (λ i l. f (run.low + i) (omega arith) (omega arith)) in
    omega (arith, nvalue_le_length (within run ts), length_within run ts)

-- one window more adds to the loads of the runs that it lies in
loads_more : (rs : List Window) (w : Window) (os : List Window) → sum_by (λ r. load r (w ∷ os)) rs ≡ sum_by (λ r. cond (inside r w) 1 0) rs + sum_by (λ r. load r os) rs
loads_more [] w os = refl
loads_more (r ∷ rs) w os =
    let h = loads_more rs w os in
    omega (arith, sum_by-cons (λ q. load q (w ∷ os)) r rs, sum_by-cons (λ q. cond (inside q w) 1 0) r rs, sum_by-cons (λ q. load q os) r rs)

-- runs with so many lots more than days have at least that surplus
loads_surplus : (ws os rs : List Window) → AllByRecursion (λ r. size r + load r os ≤ load r ws) rs → sum_by (λ r. load r os) rs ≤ surplus ws rs
loads_surplus ws os [] h = omega arith
loads_surplus ws os (r ∷ rs) (h, hs) = let i = loads_surplus ws os rs hs in omega (arith, sum_by-cons (λ q. load q os) r rs)

module _ (ws : List Window) (order : List (ℕ × ℕ)) (shuffled : IsPermutation (slots 0 ws) order) (t : ℕ) (taken : List Bool) (days : List ℕ) (runs : List Window) (most : Most)
    (p : Packing ws order t taken days runs most) (done : t ≡ length ws) (day_each : length days ≡ length ws) (room : most.runs ≤ length runs) where
  -- each lot has taken a day or is left over
  total : (f : Window → ℕ) → sum_by f (windows_of p.takers) + sum_by f p.overs ≡ sum_by f ws
  total f =
      p.sums f ∙ ap (sum_by (λ s. f (window_at ws s.1))) (take_all t order (omega (arith, length_order ws order shuffled))) ∙ sum_order ws order shuffled f

  total_length : length p.takers + length p.overs ≡ length ws
  total_length = omega (arith, total (λ w. 1), length_sum ws, length_sum p.overs, length_sum (windows_of p.takers), length_windows p.takers)

  -- what holds of the packing's runs by place holds of the list of them
  runs_all : (Q : Window → Type 0) → ((k : ℕ) → k < most.runs → Q (window_at runs k)) → AllByRecursion Q (take most.runs runs)
  runs_all Q f =
      All-from_get_or Q (take most.runs runs) (window 0 0) (λ k l.
      let b : k < most.runs = omega (arith, length-take-le most.runs runs room) in
      subst Q (sym (get_or-take most.runs runs k (window 0 0) b)) (f k b))

  loaded : (k : ℕ) → k < most.runs → size (window_at runs k) + load (window_at runs k) p.overs ≤ load (window_at runs k) ws
  loaded k l =
      let r = window_at runs k in
      let s = full_load r p.takers (p.packed.full k l).0 in
      omega (arith, total (λ w. cond (inside r w) 1 0), load_sum r ws, load_sum r p.overs, load_sum r (windows_of p.takers))

  runs_violated : AllByRecursion (Violated ws) (take most.runs runs)
  runs_violated = runs_all (Violated ws) (λ k l. omega (arith, loaded k l, (p.packed.full k l).1))

  runs_disjoint : Disjoint (take most.runs runs)
  runs_disjoint =
      disjoint_rising (take most.runs runs) (λ j k a b.
      let l : k < most.runs = omega (arith, length-take-le most.runs runs room) in
      omega (arith, p.packed.rising j k a l, ap (λ r. r.high) (get_or-take most.runs runs j (window 0 0) (omega arith)), ap (λ r. r.low) (get_or-take most.runs runs k (window 0 0) l)))

  -- windows that each lie in a run are no more than the loads of the runs
  held_loads : (os : List Window) → AllByRecursion (Held runs most.runs p.last) os → length os ≤ sum_by (λ r. load r os) (take most.runs runs)
  held_loads [] h = omega arith
  held_loads (w ∷ os) ((before, (k, b, l, h)), hs) =
      let rest = held_loads os hs in
      let more = loads_more (take most.runs runs) w os in
      let e = get_or-take most.runs runs k (window 0 0) b in
      let one = get_or-le-sum_by (λ r. cond (inside r w) 1 0) (take most.runs runs) k (window 0 0) (omega (arith, length-take-le most.runs runs room)) in
      grind (arith, nat_tests)

  -- the left-over lots are no more than the surpluses
  overs_surplus : length p.overs ≤ surplus ws (take most.runs runs)
  overs_surplus =
      omega (arith, held_loads p.overs p.packed.held, loads_surplus ws p.overs (take most.runs runs) (runs_all (λ r. size r + load r p.overs ≤ load r ws) loaded))

  days_choice : Choice ws days
  days_choice =
      choice_from_get_or ws days day_each (λ i l.
      let s = slot_of ws order shuffled i l in
      subst (λ lot. In (window_at ws lot) (get_or days lot 0)) s.2 (p.chosen.chosen s.0 (omega (arith, s.1))))

  -- the days of the choice are those that lots have taken
  days_taken : (x : ℕ) → Has days x → has x (days_of p.takers) ≡ 1
  days_taken x (i, l, e) =
      let s = slot_of ws order shuffled i (omega arith) in
      subst (λ d. has d (days_of p.takers) ≡ 1) (ap (λ lot. get_or days lot 0) s.2 ∙ e 0) (p.chosen.known s.0 (omega (arith, s.1)))

  taken_days : (x : ℕ) → Has (days_of p.takers) x → has x days ≡ 1
  taken_days x h =
      let u = p.chosen.used x (has_from x (days_of p.takers) h) in
      let there = slot_there ws order shuffled u.0 (omega (arith, u.1)) in
      subst (λ d. has d days ≡ 1) u.2 (has_from _ days (has_get_or days (lot_in_file order u.0) 0 (omega arith)))

  days_count : nvalue days ≡ most.count
  days_count =
      let ds = days_of p.takers in
      omega (arith, nvalue_mono days ds (within_members days ds days_taken), nvalue_mono ds days (within_members ds days taken_days), p.packed.apart, p.count)

  pub packing_shows : Greatest ws days (take most.runs runs) most.count
  packing_shows =
      let rs = take most.runs runs in
      let bound : (ds : List ℕ) → Choice ws ds → nvalue ds + surplus ws rs ≤ length ws = λ ds c. violated_bound ws rs ds c runs_disjoint runs_violated in
      record {
        choice = days_choice;
        count = days_count;
        disjoint = runs_disjoint;
        violated = runs_violated;
        adds_up = omega (arith, bound days days_choice, days_count, overs_surplus, total_length, p.count);
        greatest = λ ds c. omega (arith, bound ds c, overs_surplus, total_length, p.count);
      }
