-- A plan is a firm box of single days, so the greatest firm windows keep every plan.
use Rattle.std.proofs.Common.{◌≡◌, ℕ, zero, suc, ◌≤◌, List, [], ◌∷◌, map, get_or, take, drop, sym, refl, ap, ◌∙◌, arith}
use Rattle.std.specs.List.{AllZip, AllByRecursion}
use Rattle.std.proofs.lemmas.List.{take-map, drop-map}
use Rattle.store.specs.declared.window.Window.{Window}
use Rattle.store.specs.Windows.{window, window_at, Narrowed}
use Rattle.nvalue.specs.Choices.{Choice, part}
use Rattle.nvalue.specs.Nvalue.{nvalue}
use Rattle.rules.specs.declared.row.Row.{Row}
use Rattle.rules.specs.Sheets.{Sheet, sheet, under}
use Rattle.rules.specs.Plans.{Keeps, Plan, NoPlan, SamePlans}
use Rattle.rules.specs.Firm.{FirmRule, Firm, Stricter, Inside, NoFirm, GreatestFirm}
use Rattle.rules.proofs.Inside.{plan_inside}
use Rattle.nvalue.proofs.Stretches.{choice_part}

-- the windows of single days
abbrev pub points : List ℕ → List Window
points ds = map (λ d. window d d) ds

-- a rule with the count that the days have over its stretch
abbrev pub pinned : List ℕ → Row → Row
pinned ds r = record { stretch = r.stretch; floor = nvalue (under r ds); ceiling = nvalue (under r ds) }

-- days are a choice for their own windows
pub points_choice : (ds : List ℕ) → Choice (points ds) ds
points_choice [] = tt
points_choice (d ∷ ds) = ((omega arith, omega arith), points_choice ds)

-- the window at a place is the day there
pub points_get_or : (ds : List ℕ) (i : ℕ) → window_at (points ds) i ≡ window (get_or ds i 0) (get_or ds i 0)
points_get_or [] i = refl
points_get_or (d ∷ ds) zero = refl
points_get_or (d ∷ ds) (suc i) = points_get_or ds i

-- over a stretch too
points_part : (ds : List ℕ) (a n i : ℕ) → window_at (part (points ds) a n) i ≡ window (get_or (part ds a n) i 0) (get_or (part ds a n) i 0)
points_part ds a n i =
    let e : part (points ds) a n ≡ points (part ds a n) = ap (take n) (drop-map (λ d. window d d) a ds) ∙ take-map (λ d. window d d) n (drop a ds) in
    ap (λ ws. window_at ws i) e ∙ points_get_or (part ds a n) i

-- every rule with its count is firm there
pub points_rule : (ds : List ℕ) (r : Row) → FirmRule (points ds) (pinned ds r)
points_rule ds r =
    let c = choice_part (points ds) ds r.stretch.first r.stretch.length (points_choice ds) in
    let e = points_part ds r.stretch.first r.stretch.length in
    record {
      low = λ i b. (under r ds, c, (omega arith, omega arith), sym (ap (λ w. w.low) (e i)));
      high = λ i b. (under r ds, c, (omega arith, omega arith), sym (ap (λ w. w.high) (e i)));
      floor = (under r ds, c, refl);
      ceiling = (under r ds, c, refl);
    }

points_rules : (ds : List ℕ) (rules : List Row) → AllByRecursion (FirmRule (points ds)) (map (pinned ds) rules)
points_rules ds [] = tt
points_rules ds (r ∷ rules) = (points_rule ds r, points_rules ds rules)

points_counts : (ds : List ℕ) (rules : List Row) → AllByRecursion (λ r. r.floor ≤ r.ceiling) (map (pinned ds) rules)
points_counts ds [] = tt
points_counts ds (r ∷ rules) = (omega arith, points_counts ds rules)

points_days : (ds : List ℕ) → AllByRecursion (λ w. w.low ≤ w.high) (points ds)
points_days [] = tt
points_days (d ∷ ds) = (omega arith, points_days ds)

-- the sheet of single days, with their counts over the stretches of some rules
abbrev pub points_sheet : List ℕ → List Row → Sheet
points_sheet ds rules = sheet (points ds) (map (pinned ds) rules)

-- it is firm
pub points_firm : (ds : List ℕ) (rules : List Row) → Firm (points_sheet ds rules)
points_firm ds rules = record { days = points_days ds; counts = points_counts ds rules; each = points_rules ds rules }

points_narrower : (ws : List Window) (ds : List ℕ) → Choice ws ds → Narrowed (points ds) ws
points_narrower [] [] c = tt
points_narrower [] (d ∷ ds) c = absurd c
points_narrower (w ∷ ws) [] c = absurd c
points_narrower (w ∷ ws) (d ∷ ds) (b, c) = (b, points_narrower ws ds c)

points_stricter : (ds : List ℕ) (rules : List Row) → AllByRecursion (Keeps ds) rules → AllZip Stricter (map (pinned ds) rules) rules
points_stricter ds [] k = tt
points_stricter ds (r ∷ rules) (k, ks) = (record { stretch = refl; floor = k.0; ceiling = k.1 }, points_stricter ds rules ks)

points_keeps : (ds : List ℕ) (rules : List Row) → AllByRecursion (Keeps ds) (map (pinned ds) rules)
points_keeps ds [] = tt
points_keeps ds (r ∷ rules) = ((omega arith, omega arith), points_keeps ds rules)

-- and where the days are a plan it lies inside
pub plan_points : (s : Sheet) (ds : List ℕ) → Plan s ds → Inside (points_sheet ds s.rules) s
plan_points s ds p = record { windows = points_narrower s.windows ds p.choice; counts = points_stricter ds s.rules p.keeps }

-- days whose sheet lies inside are a plan
pub points_plan : (s : Sheet) (qs : List Row) (ds : List ℕ) → Inside (points_sheet ds qs) s → Plan s ds
points_plan s qs ds i = plan_inside (points_sheet ds qs) s ds i (record { choice = points_choice ds; keeps = points_keeps ds qs })

-- the greatest firm sheet has just the plans that were there
pub settled_plans : (s is : Sheet) → GreatestFirm s is → SamePlans s is
settled_plans s is g ds = (
  λ p. points_plan is s.rules ds (g.greatest (points_sheet ds s.rules) (points_firm ds s.rules) (plan_points s ds p)),
  λ p. plan_inside is s ds g.inside p,
)

-- where no sheet inside is firm there is no plan
pub no_firm_no_plan_lem : (s : Sheet) → NoFirm s → NoPlan s
no_firm_no_plan_lem s none ds p = none (points_sheet ds s.rules) (points_firm ds s.rules) (plan_points s ds p)
