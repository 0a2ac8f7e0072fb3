-- The facts that show a claim of the table, and a test of them, which the checker computes.
use Rattle.std.proofs.Common.{◌≡◌, ℕ, suc, ◌+◌, ◌-◌, ◌<◌, ◌≤◌, true, List, length, map, sym, refl, subst}
use Rattle.std.specs.List.{AllZip, AllByRecursion}
use Rattle.std.proofs.ByRecursion.{All-weaker}
use Rattle.store.specs.declared.half_line.HalfLine.{HalfLine}
use Rattle.store.specs.declared.half_line.HalfLine.TheVariants.{From, UpTo}
use Rattle.store.specs.declared.window.Window.{Window}
use Rattle.store.specs.Sound.{Sound}
use Rattle.store.specs.Windows.{end_of, window, window_at, Misses, Within, trimmed}
use Rattle.base_stores.specs.Masks.{kept, window_of_mask}
use Rattle.calendar.specs.Calendars as calendar
use Rattle.nvalue.specs.Choices.{Choice, Violated, Disjoint, load, size, surplus}
use Rattle.nvalue.specs.Nvalue.{nvalue, Counts}
use Rattle.extremes.specs.Shown.{NoFewer, NoMore}
use Rattle.rules.specs.declared.row.Row.{Row}
use Rattle.rules.specs.Sheets.{Sheet, under}
use Rattle.rules.specs.Firm.{Counted, Firm, Inside}
use Rattle.rules.specs.Plans.{Earliest, Keeps, NoPlan, Plan}
use Rattle.examples.specs.Claims.{AskGives, Asked, Moves, Calendar, Claim, Holds, dispatch, periods, season}
use Rattle.examples.specs.Claims.{settles, nothing_firm, plans, no_plan, fewest, most, before_dispatch, in_one_period, mask}
use Rattle.examples.specs.Table.{Example, Shown}
use Rattle.examples.proofs.Trying.{◌&◌, answered, below, day_of, each, every, every_day, fails, gives, implies, is_yes, le, pairs, same, some}
use Rattle.examples.proofs.Deciding.{NotLater, counted, counts, disjoint, firm, inside, not_later, plan, same_or_earlier, same_window, sound, supported}
use Rattle.examples.proofs.Firm.{Kept, KeepsCounts, KeepsDays, Leaves, greatest_firm, none_firm}
use Rattle.examples.proofs.Calls.{ask_gives, moves_so, plan_accepts, plan_refuses, settle_accepts, settle_refuses}

-- a sheet of at most 256 lots with sound windows
abbrev Usable : Sheet → Type 0
Usable s = (length s.windows ≤ 256) × AllByRecursion Sound s.windows

abbrev pub usable : (s : Sheet) → Dec (Usable s)
usable s = le (length s.windows) 256 & each sound s.windows

-- settling in one step
abbrev pub leaves : (ws : List Window) (lot day : ℕ) (r : Row) → Dec (Leaves ws lot day r)
leaves ws lot day r =
    implies (le r.stretch.first lot & le (suc lot) (r.stretch.first + r.stretch.length))
    (supported (under r ws) r.floor r.ceiling (lot - r.stretch.first) day)

abbrev pub keeps_days : (s t : Sheet) → Dec (KeepsDays s t)
keeps_days s t =
    below (λ lot. every_day (window_at s.windows lot) (λ day.
    gives (each (leaves s.windows lot day) s.rules) (day_of (window_at t.windows lot) day))) (length s.windows)

abbrev pub keeps_counts : (ws : List Window) (p r : Row) → Dec (KeepsCounts ws p r)
keeps_counts ws p r =
    every_day (window r.floor r.ceiling) (λ count.
    gives (counted (under r ws) count) (day_of (window p.floor p.ceiling) count))

-- some rule has no choice
abbrev pub NoChoice : Sheet → Type 0
NoChoice s = AllByRecursion (Kept s.windows) s.rules → ⊥

abbrev pub no_choice : (s : Sheet) → Dec (NoChoice s)
no_choice s =
    fails (each (λ r. some (under r s.windows) (Counts r.floor r.ceiling) (counts r.floor r.ceiling)) s.rules)

-- of every choice that keeps all rules
abbrev pub OfPlans : Sheet → (List ℕ → Type 0) → Type 0
OfPlans s P = (ds : List ℕ) → Choice s.windows ds → AllByRecursion (Keeps ds) s.rules → P ds

abbrev pub of_plans : (s : Sheet) (P : List ℕ → Type 0) → ((ds : List ℕ) → Dec (P ds)) → Dec (OfPlans s P)
of_plans s P decide =
    every s.windows (λ ds. AllByRecursion (Keeps ds) s.rules → P ds)
    (λ ds. implies (each (λ r. counts r.floor r.ceiling (under r ds)) s.rules) (decide ds))

-- an ask that moves a window
abbrev pub Turns : HalfLine → Window → Window → Type 0
Turns days w v = (end_of days ≤ 9999) × ((Within days w → ⊥) × ((Misses days w → ⊥) × (v ≡ trimmed days w)))

abbrev pub within : (days : HalfLine) (w : Window) → Dec (Within days w)
within (From day) w = le day w.low
within (UpTo day) w = le w.high day

abbrev pub misses : (days : HalfLine) (w : Window) → Dec (Misses days w)
misses (From day) w = le (suc w.high) day
misses (UpTo day) w = le (suc day) w.low

abbrev pub turns : (days : HalfLine) (w v : Window) → Dec (Turns days w v)
turns days w v =
    le (end_of days) 9999 & fails (within days w) & fails (misses days w) & same_window v (trimmed days w)

abbrev pub TurnsBoth : Calendar → HalfLine → Window → Window → Type 0
TurnsBoth c days w v =
    Turns days (c.shown w) (c.shown v) × (Turns (c.days days) w v × (c.below w (c.shown v) ≡ v))

abbrev pub turns_both : (c : Calendar) (days : HalfLine) (w v : Window) → Dec (TurnsBoth c days w v)
turns_both c days w v =
    turns days (c.shown w) (c.shown v) & turns (c.days days) w v & same_window (c.below w (c.shown v)) v

asked_so : (c : Calendar) (days : HalfLine) (w v : Window) → TurnsBoth c days w v → Asked c days w v
asked_so c days w v ((a, (p, (m, e))), ((b, (q, (n, f))), g)) = record {
  asked = subst (AskGives days (c.shown w)) (sym e) (ask_gives days (c.shown w) a p m);
  moves = subst (Moves days (c.shown w)) (sym e) (moves_so days (c.shown w) a p m);
  moves_below = subst (Moves (c.days days) w) (sym f) (moves_so (c.days days) w b q n);
  below = g;
}

-- the window between two asks
abbrev pub halfway : ℕ → Window → ℕ → Window
halfway days w period = trimmed (calendar.period_days days (From period)) w

-- what shows a claim
abbrev pub Facts : Claim → Type 0
Facts (settles s t) =
    Usable s × (Firm t × (Inside t s × (KeepsDays s t × AllZip (KeepsCounts s.windows) t.rules s.rules)))
Facts (nothing_firm s number) = Usable s × (NoChoice s × (number ≡ 25))
Facts (plans s ds count) = Usable s × (Plan s ds × (OfPlans s (NotLater ds) × (nvalue ds ≡ count)))
Facts (no_plan s number) = Usable s × (OfPlans s (λ ds. ⊥) × (number ≡ 26))
Facts (fewest ws lots) =
    Counted ws (length lots)
    × (NoFewer ws (length lots) × (AllByRecursion (λ lot. lot < length ws) lots × Disjoint (map (window_at ws) lots)))
Facts (most ws runs m) =
    Counted ws m
    × (NoMore ws m × (Disjoint runs × (AllByRecursion (Violated ws) runs × (m + surplus ws runs ≡ length ws))))
Facts (before_dispatch last w shown day v) =
    (calendar.before_dispatch last w ≡ shown) × TurnsBoth (dispatch last) (From day) w v
Facts (in_one_period days w shown period v) =
    (calendar.in_periods days w ≡ shown)
    × (TurnsBoth (periods days) (From period) w (halfway days w period)
    × TurnsBoth (periods days) (UpTo period) (halfway days w period) v)
Facts (mask m w day n) =
    (window_of_mask m ≡ w)
    × (TurnsBoth season (From day) w (window_of_mask n) × (kept m (window_of_mask n) ≡ n))

abbrev pub test : (c : Claim) → Dec (Facts c)
test (settles s t) = usable s & firm t & inside t s & keeps_days s t & pairs (keeps_counts s.windows) t.rules s.rules
test (nothing_firm s number) = usable s & no_choice s & same number 25
test (plans s ds count) = usable s & plan s ds & of_plans s (NotLater ds) (not_later ds) & same (nvalue ds) count
test (no_plan s number) = usable s & of_plans s (λ ds. ⊥) (λ ds. no (λ h. h)) & same number 26
test (fewest ws lots) =
    counted ws (length lots) & every ws (λ ds. length lots ≤ nvalue ds) (λ ds. le (length lots) (nvalue ds))
    & each (λ lot. le (suc lot) (length ws)) lots & disjoint (map (window_at ws) lots)
test (most ws runs m) =
    counted ws m & every ws (λ ds. nvalue ds ≤ m) (λ ds. le (nvalue ds) m)
    & disjoint runs & each (λ run. le (suc (size run)) (load run ws)) runs & same (m + surplus ws runs) (length ws)
test (before_dispatch last w shown day v) =
    same_window (calendar.before_dispatch last w) shown & turns_both (dispatch last) (From day) w v
test (in_one_period days w shown period v) =
    same_window (calendar.in_periods days w) shown
    & turns_both (periods days) (From period) w (halfway days w period)
    & turns_both (periods days) (UpTo period) (halfway days w period) v
test (mask m w day n) =
    same_window (window_of_mask m) w & turns_both season (From day) w (window_of_mask n)
    & same (kept m (window_of_mask n)) n

-- and so it holds
pub shown : (c : Claim) → Facts c → Holds c
shown (settles s t) (u, (f, (i, (days, counts)))) =
    let g = greatest_firm s t f i days counts in
    (g, settle_accepts s u.0 u.1 t g)
shown (nothing_firm s number) (u, (n, e)) =
    let none = none_firm s n in
    subst (λ k. Holds (nothing_firm s k)) (sym e) (none, settle_refuses s u.0 u.1 none)
shown (plans s ds count) (u, (p, (f, e))) =
    let g : Earliest s ds = record { plan = p; first = λ es q. same_or_earlier ds es (f es q.choice q.keeps) } in
    subst (λ k. Holds (plans s ds k)) e (g, refl, plan_accepts s u.0 u.1 ds g)
shown (no_plan s number) (u, (n, e)) =
    let none : NoPlan s = λ ds p. n ds p.choice p.keeps in
    subst (λ k. Holds (no_plan s k)) (sym e) (none, plan_refuses s u.0 u.1 none)
shown (fewest ws lots) (c, (l, (t, d))) =
    (c.0, record { choice = c.1; count = c.2; many = refl; there = t; disjoint = d; least = l })
shown (most ws runs m) (c, (g, (d, (v, a)))) =
    (c.0, record { choice = c.1; count = c.2; disjoint = d; violated = v; adds_up = a; greatest = g })
shown (before_dispatch last w window day v) (e, t) = (e, asked_so (dispatch last) (From day) w v t)
shown (in_one_period days w window period v) (e, (t, u)) =
    let mid = halfway days w period in
    (e, mid, asked_so (periods days) (From period) w mid t, asked_so (periods days) (UpTo period) mid v u)
shown (mask m w day n) (e, (t, k)) = (e, asked_so season (From day) w (window_of_mask n) t, k)

abbrev pub test_all : (examples : List Example)
    → Dec (AllByRecursion (λ example. AllByRecursion Facts example.claims) examples)
test_all examples = each (λ example. each test example.claims) examples

pub all_shown : (examples : List Example) → is_yes (test_all examples) ≡ true → AllByRecursion Shown examples
all_shown examples e =
    All-weaker (λ example. AllByRecursion Facts example.claims) Shown
    (λ example h. All-weaker Facts Holds shown example.claims h) examples (answered (test_all examples) e)
