-- Bounds on the number of different values: by index, by windows that share no day, and by violated runs.
use Rattle.std.proofs.Common.{◌≡◌, ℕ, zero, suc, ◌+◌, ◌-◌, ◌<◌, ◌≤◌, cond, ◌&&◌, leb, List, [], ◌∷◌, ◌++◌, map, length, get_or, sym, refl, ◌∙◌, subst, zero-add, arith}
use Rattle.std.specs.List.{range_with_len, ContainsAt as Has, flat_map, AllByRecursion}
use Rattle.std.proofs.lemmas.List.FromFn.{get_or-range_with_len, get_or-map-range_with_len, length-range_with_len, length-map-range_with_len}
use Rattle.std.proofs.ByRecursion.{All-from_get_or, All-get_or, has_get_or}
use Rattle.std.proofs.lemmas.List.{get_or-map, length-append, length-map}
use Rattle.std.proofs.lemmas.Bool.Decides.{nat_tests}
use Rattle.store.specs.declared.window.Window.{Window}
use Rattle.store.specs.Windows.{window, window_at}
use Rattle.nvalue.specs.Choices.{In, Choice, ShareNoDay, Disjoint, size, load, Violated, surplus}
use Rattle.nvalue.specs.Nvalue.{has, nvalue}
use Rattle.nvalue.proofs.Choices.{choice_get_or, choice_length}
use Rattle.nvalue.proofs.Nvalue.{without, has_append, has_from, has_le_one, has_without, nvalue_le_length, nvalue_mono, nvalue_without, within_append, within_members}

-- m values that occur, no two of them equal, are at least m different values
pub nvalue_at_least : (ds : List ℕ) (m : ℕ) (f : ℕ → ℕ) → ((i j : ℕ) → i < j → j < m → f i ≡ f j → ⊥) → ((i : ℕ) → i < m → has (f i) ds ≡ 1) → m ≤ nvalue ds
nvalue_at_least ds zero f u h = omega arith
nvalue_at_least ds (suc m) f u h =
    let left : (i : ℕ) → i < m → has (f i) (without (f m) ds) ≡ 1 = λ i l. grind (arith, nat_tests, h i (omega arith), u i m l (omega arith), has_without (f m) (f i) ds) in
    let rest = nvalue_at_least (without (f m) ds) m f (λ i j l k. u i j l (omega arith)) left in
    omega (arith, nvalue_without (f m) ds, h m (omega arith))

-- values that are all among m values are at most m different values
pub nvalue_at_most : (ds : List ℕ) (m : ℕ) (f : ℕ → ℕ) → ((i : ℕ) → i < length ds → (j : ℕ) × (j < m) × (f j ≡ get_or ds i 0)) → nvalue ds ≤ m
nvalue_at_most ds m f h =
    let all = map f (range_with_len 0 m) in
    let long : length all ≡ m = length-map-range_with_len f 0 m in
    let among : (j : ℕ) → j < m → has (f j) all ≡ 1 = λ j l. has_from (f j) all (j, omega arith, λ d. get_or-map-range_with_len f 0 m j j d l (zero-add j)) in
    let there : (x : ℕ) → Has ds x → has x all ≡ 1 = λ x p. let q = h p.0 p.1 in subst (λ y. has y all ≡ 1) (q.2 ∙ p.2 0) (among q.0 q.1) in
    omega (arith, nvalue_mono ds all (within_members ds all there), nvalue_le_length all)

-- windows that share no day, by place
disjoint_at : (ws : List Window) (lots : List ℕ) → Disjoint (map (window_at ws) lots) → (i j : ℕ) → i < j → j < length lots → ShareNoDay (window_at ws (get_or lots i 0)) (window_at ws (get_or lots j 0))
disjoint_at ws [] u i j l b = absurd (omega arith)
disjoint_at ws (x ∷ xs) u i zero l b = absurd (omega arith)
disjoint_at ws (x ∷ xs) (u, us) zero (suc j) l b =
    let k : j < length xs = omega arith in
    let at = All-get_or (ShareNoDay (window_at ws x)) (map (window_at ws) xs) j (window 0 0) (rw length-map k) u in
    subst (ShareNoDay (window_at ws x)) (get_or-map (window_at ws) xs j 0 (window 0 0) k) at
disjoint_at ws (x ∷ xs) (u, us) (suc i) (suc j) l b = disjoint_at ws xs us i j (omega arith) (omega arith)

-- lots whose windows share no day have different days
pub disjoint_bound : (ws : List Window) (ds lots : List ℕ) → Choice ws ds → AllByRecursion (λ lot. lot < length ws) lots → Disjoint (map (window_at ws) lots) → length lots ≤ nvalue ds
disjoint_bound ws ds lots c b u =
    let there : (i : ℕ) → i < length lots → get_or lots i 0 < length ws = λ i l. All-get_or (λ lot. lot < length ws) lots i 0 l b in
    let day : (i : ℕ) → i < length lots → In (window_at ws (get_or lots i 0)) (get_or ds (get_or lots i 0) 0) = λ i l. choice_get_or ws ds c (get_or lots i 0) (there i l) in
    let differ : (i j : ℕ) → i < j → j < length lots → get_or ds (get_or lots i 0) 0 ≡ get_or ds (get_or lots j 0) 0 → ⊥ =
    λ i j l k e. disjoint_at ws lots u i j l k _ (day i (omega arith)) (subst (In (window_at ws (get_or lots j 0))) (sym e) (day j k)) in
    let occur : (i : ℕ) → i < length lots → has (get_or ds (get_or lots i 0) 0) ds ≡ 1 =
    λ i l. has_from _ ds (has_get_or ds (get_or lots i 0) 0 (omega (arith, there i l, choice_length ws ds c))) in
    nvalue_at_least ds (length lots) (λ i. get_or ds (get_or lots i 0) 0) differ occur

-- how many of the runs a window lies wholly inside
abbrev covers : List Window → Window → ℕ
covers [] w = 0
covers (run ∷ runs) w = cond (leb run.low w.low && leb w.high run.high) 1 0 + covers runs w

-- the loads of all runs, their sizes and their days
abbrev loads : List Window → List Window → ℕ
loads [] ws = 0
loads (run ∷ runs) ws = load run ws + loads runs ws

abbrev room : List Window → ℕ
room [] = 0
room (run ∷ runs) = size run + room runs

abbrev days : List Window → List ℕ
days runs = flat_map (λ run. range_with_len run.low (size run)) runs

length_days : (runs : List Window) → length (days runs) ≡ room runs
length_days [] = refl
length_days (run ∷ runs) = simp (length-append, length-range_with_len, length_days runs)

has_run : (run : Window) (d : ℕ) → run.low ≤ d → d ≤ run.high → has d (range_with_len run.low (size run)) ≡ 1
has_run run d l h =
    let k : d - run.low < size run = omega arith in
    has_from d _ (d - run.low, rw length-range_with_len k, λ e. get_or-range_with_len run.low (size run) (d - run.low) e k ∙ omega arith)

-- a window with a day of one run lies in no run that shares no day with it
covers_none : (run : Window) (runs : List Window) (w : Window) (d : ℕ) → AllByRecursion (ShareNoDay run) runs → In run d → In w d → covers runs w ≡ 0
covers_none run [] w d u h b = refl
covers_none run (r ∷ runs) w d (u, us) h b = grind (arith, nat_tests, covers_none run runs w d us h b, u d h)

-- a window lies in at most one run, and its day is then one of the runs'
covers_le_has : (runs : List Window) (w : Window) (d : ℕ) → Disjoint runs → In w d → covers runs w ≤ has d (days runs)
covers_le_has [] w d u b = omega arith
covers_le_has (run ∷ runs) w d (u, us) b =
    let none : run.low ≤ d → d ≤ run.high → covers runs w ≡ 0 = λ l k. covers_none run runs w d u (l, k) b in
    grind (arith, nat_tests, covers_le_has runs w d us b, has_run run d, has_append d (range_with_len run.low (size run)) (days runs), has_le_one)

loads_none : (runs : List Window) → loads runs [] ≡ 0
loads_none [] = refl
loads_none (run ∷ runs) = omega (arith, loads_none runs)

loads_more : (runs : List Window) (w : Window) (ws : List Window) → loads runs (w ∷ ws) ≡ covers runs w + loads runs ws
loads_more [] w ws = refl
loads_more (run ∷ runs) w ws = omega (arith, loads_more runs w ws)

-- to the days of the runs each lot adds at most one, and none where its window lies in a run
loads_bound : (runs ws : List Window) (ds : List ℕ) → Choice ws ds → Disjoint runs → nvalue (ds ++ days runs) + loads runs ws ≤ length ws + room runs
loads_bound runs [] [] c u = omega (arith, nvalue_le_length (days runs), length_days runs, loads_none runs)
loads_bound runs [] (d ∷ ds) c u = absurd c
loads_bound runs (w ∷ ws) [] c u = absurd c
loads_bound runs (w ∷ ws) (d ∷ ds) (b, c) u =
    grind (arith, nat_tests, loads_bound runs ws ds c u, loads_more runs w ws, covers_le_has runs w d u b, has_append d ds (days runs), has_le_one)

-- the surpluses of violated runs are their loads less their sizes
surplus_loads : (ws runs : List Window) → AllByRecursion (Violated ws) runs → surplus ws runs + room runs ≡ loads runs ws
surplus_loads ws [] c = refl
surplus_loads ws (run ∷ runs) (c, cs) = omega (arith, surplus_loads ws runs cs)

-- violated runs that share no day: at most as many different days as lots, less the surpluses
pub violated_bound : (ws runs : List Window) (ds : List ℕ) → Choice ws ds → Disjoint runs → AllByRecursion (Violated ws) runs → nvalue ds + surplus ws runs ≤ length ws
violated_bound ws runs ds c u o =
    omega (arith, nvalue_mono ds (ds ++ days runs) (within_append ds (days runs)), loads_bound runs ws ds c u, surplus_loads ws runs o)

-- windows that lie apart in their order share no day
pub disjoint_rising : (ws : List Window) → ((i j : ℕ) → i < j → j < length ws → (window_at ws i).high < (window_at ws j).low) → Disjoint ws
disjoint_rising [] apart = tt
disjoint_rising (w ∷ ws) apart = (
  All-from_get_or (ShareNoDay w) ws (window 0 0) (λ j h d v u. omega (arith, apart 0 (suc j) (omega arith) (omega arith))),
  disjoint_rising ws (λ i j l h. apart (suc i) (suc j) (omega arith) (omega arith)),
)
