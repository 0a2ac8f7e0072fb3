-- Laws of plans where one window or one rule is replaced, and of rules over the same stretches.
use Rattle.std.proofs.Common.{◌≡◌, ℕ, ◌<◌, List, length, get_or, set, sym, ap, ◌∙◌, subst, inl, inr, arith}
use Rattle.std.specs.List.{AllZip, AllByRecursion}
use Rattle.std.proofs.ByRecursion.{All-get_or, All-set}
use Rattle.std.proofs.lemmas.Bool.{cases_eq, cases_lt}
use Rattle.std.proofs.lemmas.List.Elements.{AllZip-get_or, length_all_zip}
use Rattle.std.proofs.lemmas.List.{get_or_past, get_or-set_same, get_or-set_other, length-set, set-get_or, set_past, set-set}
use Rattle.store.specs.declared.window.Window.{Window}
use Rattle.store.specs.Windows.{window_at}
use Rattle.nvalue.specs.Choices.{In, part}
use Rattle.nvalue.proofs.Choices.{choice_get_or}
use Rattle.nvalue.proofs.Replaced.{choice_put, choice_back, choice_at}
use Rattle.rules.specs.declared.row.Row.{Row}
use Rattle.rules.specs.Sheets.{Sheet, sheet, row, rule_at, under}
use Rattle.rules.specs.Plans.{Keeps, Plan}
use Rattle.rules.specs.Firm.{Stricter}

-- a sheet with another window for a lot
module _ (s : Sheet) (i : ℕ) (w : Window) (ds : List ℕ) where
  pub plan_put : Plan s ds → In w (get_or ds i 0) → Plan (sheet (set s.windows i w) s.rules) ds
  plan_put p h = record { choice = choice_put s.windows ds i w p.choice (λ _. h); keeps = p.keeps }

  pub plan_back : Plan (sheet (set s.windows i w) s.rules) ds → In (window_at s.windows i) (get_or ds i 0) → Plan s ds
  plan_back p h = record { choice = choice_back s.windows ds i w p.choice h; keeps = p.keeps }

  pub plan_day : i < length s.windows → Plan (sheet (set s.windows i w) s.rules) ds → In w (get_or ds i 0)
  plan_day there p = choice_at s.windows ds i w there p.choice

-- the day of a lot in a plan
pub plan_at : (s : Sheet) (ds : List ℕ) (i : ℕ) → i < length s.windows → Plan s ds → In (window_at s.windows i) (get_or ds i 0)
plan_at s ds i b p = choice_get_or s.windows ds p.choice i b

-- a list of rules with another rule at a number
module _ (rules : List Row) (k : ℕ) (q : Row) (ds : List ℕ) where
  pub keeps_put : AllByRecursion (Keeps ds) rules → Keeps ds q → AllByRecursion (Keeps ds) (set rules k q)
  keeps_put a h = All-set (Keeps ds) rules k q h a

  pub keeps_at : k < length rules → AllByRecursion (Keeps ds) (set rules k q) → Keeps ds q
  keeps_at there a = subst (Keeps ds) (get_or-set_same rules k q (row 0 0 0 0) there) (All-get_or (Keeps ds) (set rules k q) k (row 0 0 0 0) (omega (arith, length-set rules k q)) a)

  pub keeps_back : AllByRecursion (Keeps ds) (set rules k q) → Keeps ds (rule_at rules k) → AllByRecursion (Keeps ds) rules
  keeps_back a h =
      subst (AllByRecursion (Keeps ds)) (set-set rules k q (rule_at rules k) ∙ set-get_or rules k (row 0 0 0 0)) (All-set (Keeps ds) (set rules k q) k (rule_at rules k) h a)

-- a plan keeps the rule with a number
pub plan_rule : (s : Sheet) (ds : List ℕ) (k : ℕ) → k < length s.rules → Plan s ds → Keeps ds (rule_at s.rules k)
plan_rule s ds k b p = All-get_or (Keeps ds) s.rules k (row 0 0 0 0) b p.keeps

-- rules over the same stretches
abbrev pub Alike : List Row → List Row → Type 0
Alike qs rs = (k : ℕ) → (rule_at qs k).stretch ≡ (rule_at rs k).stretch

pub alike_set : (rules : List Row) (i : ℕ) (q : Row) → q.stretch ≡ (rule_at rules i).stretch → Alike (set rules i q) rules
alike_set rules i q same k = elim (cases_eq k i) [
  | inl e ↦ elim (cases_lt i (length rules)) [
    | inl b ↦ subst (λ j. (rule_at (set rules i q) j).stretch ≡ (rule_at rules j).stretch) (sym e) (ap (λ r. r.stretch) (get_or-set_same rules i q (row 0 0 0 0) b) ∙ same)
    | inr b ↦ ap (λ rs. (rule_at rs k).stretch) (set_past rules i q b)
  ]
  | inr n ↦ ap (λ r. r.stretch) (get_or-set_other rules i k q (row 0 0 0 0) n)
]

pub alike_stricter : (qs rules : List Row) → AllZip Stricter qs rules → Alike qs rules
alike_stricter qs rules e k = elim (cases_lt k (length qs)) [
  | inl b ↦ (AllZip-get_or Stricter qs rules k (row 0 0 0 0) (row 0 0 0 0) e b).stretch
  | inr b ↦
      ap (λ r. r.stretch) (get_or_past qs k (row 0 0 0 0) b ∙ sym (get_or_past rules k (row 0 0 0 0) (omega (arith, length_all_zip Stricter qs rules e))))
]

-- what lies under a rule depends on its stretch alone
pub alike_under : {X : Type 0} (qs rules : List Row) (xs : List X) (k : ℕ) → Alike qs rules → under (rule_at qs k) xs ≡ under (rule_at rules k) xs
alike_under qs rules xs k a = ap (λ s. part xs s.first s.length) (a k)
