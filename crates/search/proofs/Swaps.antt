-- Days that every window has or lacks together can stand for one another: exchanging two such days in a plan gives a plan.
use Rattle.std.proofs.Common.{◌≡◌, ℕ, ◌<◌, ◌≤◌, cond, eqb, List, [], ◌∷◌, map, length, get_or, take, drop, refl, ap, ◌∙◌, inl, inr, arith}
use Rattle.std.specs.List.{AllByRecursion}
use Rattle.std.proofs.ByRecursion.{All-from_get_or, All-weaker}
use Rattle.std.proofs.lemmas.List.{get_or-map, take-map, drop-map}
use Rattle.std.proofs.lemmas.Bool.{cases_lt}
use Rattle.std.proofs.lemmas.Bool.Decides.{nat_tests}
use Rattle.store.specs.declared.window.Window.{Window}
use Rattle.store.specs.Windows.{window, window_at}
use Rattle.nvalue.specs.Choices.{Choice, In, part}
use Rattle.nvalue.specs.Nvalue.{has, nvalue}
use Rattle.nvalue.proofs.Choices.{choice_get_or, choice_length}
use Rattle.rules.specs.declared.row.Row.{Row}
use Rattle.rules.specs.Plans.{Keeps, Plan, NoPlan}
use Rattle.rules.specs.Sheets.{Sheet}
use Rattle.search.specs.Search.{NextDay, Uncut, fixed}
use Rattle.search.proofs.Left.{plan_fixed}

-- each of two days for the other
abbrev pub swap : ℕ → ℕ → ℕ → ℕ
swap x y d = cond (eqb d x) y (cond (eqb d y) x d)

swap_eqb : (x y a b : ℕ) → eqb (swap x y a) (swap x y b) ≡ eqb a b
swap_eqb x y a b = grind (arith, nat_tests)

has_swap : (x y a : ℕ) (ds : List ℕ) → has (swap x y a) (map (swap x y) ds) ≡ has a ds
has_swap x y a [] = refl
has_swap x y a (d ∷ ds) = let e = has_swap x y a ds in let f = swap_eqb x y a d in cc

-- as many different days as before
pub nvalue_swap : (x y : ℕ) (ds : List ℕ) → nvalue (map (swap x y) ds) ≡ nvalue ds
nvalue_swap x y [] = refl
nvalue_swap x y (d ∷ ds) = let e = nvalue_swap x y ds in let f = has_swap x y d ds in omega arith

keeps_swap : (x y : ℕ) (ds : List ℕ) (r : Row) → Keeps ds r → Keeps (map (swap x y) ds) r
keeps_swap x y ds r k =
    let e : part (map (swap x y) ds) r.stretch.first r.stretch.length ≡ map (swap x y) (part ds r.stretch.first r.stretch.length) = ap (take r.stretch.length) (drop-map (swap x y) r.stretch.first ds) ∙ take-map (swap x y) r.stretch.length (drop r.stretch.first ds) in
    let n = ap nvalue e ∙ nvalue_swap x y (part ds r.stretch.first r.stretch.length) in
    (omega arith, omega arith)

-- a window that begins and ends not between two days has both or neither
in_swap : (x y next d : ℕ) (w : Window) → x ≤ y → y < next → Uncut x next w → In w d → In w (swap x y d)
in_swap x y next d w l h u b = let f = u.0 in let g = u.1 in (grind (arith, nat_tests), grind (arith, nat_tests))

choice_swap : (x y next : ℕ) → x ≤ y → y < next → (ws : List Window) (ds : List ℕ) → AllByRecursion (Uncut x next) ws → Choice ws ds → Choice ws (map (swap x y) ds)
choice_swap x y next l h [] [] u c = tt
choice_swap x y next l h [] (d ∷ ds) u c = absurd c
choice_swap x y next l h (w ∷ ws) [] u c = absurd c
choice_swap x y next l h (w ∷ ws) (d ∷ ds) (u, us) (b, c) = (in_swap x y next d w l h u b, choice_swap x y next l h ws ds us c)

swap_second : (x y : ℕ) → swap x y y ≡ x
swap_second x y = grind (arith, nat_tests)

-- where no plan gives the lot its first day, none gives it a day before the next one to try
pub skipped : (s : Sheet) (lot next : ℕ) → lot < length s.windows → NextDay s.windows lot next → NoPlan (fixed lot s) → (ds : List ℕ) → Plan s ds → next ≤ get_or ds lot 0
skipped s lot next there n none ds p =
    let low = (window_at s.windows lot).low in
    let day = get_or ds lot 0 in
    let b = choice_get_or s.windows ds p.choice lot there in
    let es = map (swap low day) ds in
    let uncut = All-from_get_or (Uncut low next) s.windows (window 0 0) n.uncut in
    elim (cases_lt day next) [
      | inr l ↦ l
      | inl l ↦
          let q : Plan s es = record { choice = choice_swap low day next b.0 l s.windows ds uncut p.choice; keeps = All-weaker (Keeps ds) (Keeps es) (keeps_swap low day ds) s.rules p.keeps } in
          let e : get_or es lot 0 ≡ low = get_or-map (swap low day) ds lot 0 0 (omega (arith, choice_length s.windows ds p.choice)) ∙ swap_second low day in
          absurd (none es (plan_fixed s lot there es q e))
    ]
