-- Laws of the parts into which a sheet falls: a plan has plans of its parts, and the earliest plans of parts that have no rule in common join.
use Rattle.std.proofs.Common.{◌≡◌, ℕ, ◌+◌, ◌-◌, ◌≤◌, true, false, ◌⊎◌, List, [], ◌∷◌, ◌++◌, map, length, take, drop, filter, sym, refl, ap, ap₂, ◌∙◌, subst, inl, inr, arith}
use Rattle.std.specs.List.{AllByRecursion}
use Rattle.std.proofs.ByRecursion.{All-weaker}
use Rattle.std.proofs.lemmas.List.{take-append-drop, drop-drop, drop-take, take_at, drop_at, take_all, take-take}
use Rattle.std.proofs.lemmas.Bool.{cond_both, cond-true, cond-false}
use Rattle.std.proofs.lemmas.Bool.Decides.{nat_tests}
use Rattle.nvalue.specs.Choices.{Choice, part}
use Rattle.nvalue.specs.Nvalue.{Counts}
use Rattle.nvalue.proofs.Choices.{choice_length}
use Rattle.rules.specs.declared.row.Row.{Row}
use Rattle.rules.specs.Sheets.{Sheet, sheet}
use Rattle.rules.specs.Plans.{Keeps, Plan, NoPlan, Earlier, Earliest}
use Rattle.rules.specs.Parts.{Border, lies, renumbered, within, part_of}
use Rattle.rules.proofs.Order.{earlier_join}
use Rattle.nvalue.proofs.Stretches.{choice_take, choice_drop, choice_part, choice_append, part_take, part_drop, part_part, part_length}

-- days of the lots from a on and before b keep a rule, if it lies there
abbrev KeepsThere : ℕ → ℕ → List ℕ → Row → Type 0
KeepsThere a b ds r = a ≤ r.stretch.first → r.stretch.first + r.stretch.length ≤ b → Keeps ds (renumbered a r)

module _ (a b : ℕ) (ds : List ℕ) where
  -- days that keep the rules of a part keep each rule that lies there
  keeps_from_within : (rules : List Row) → AllByRecursion (Keeps ds) (within a b rules) → AllByRecursion (KeepsThere a b ds) rules
  keeps_from_within [] = λ k. tt
  keeps_from_within (r ∷ rules) =
      let out : lies a b r ≡ false → KeepsThere a b ds r = λ e l h. absurd (grind (arith, nat_tests)) in
      cond_both (lies a b r) (r ∷ filter (lies a b) rules) (filter (lies a b) rules)
      (λ rs. AllByRecursion (Keeps ds) (map (renumbered a) rs) → AllByRecursion (KeepsThere a b ds) (r ∷ rules))
      (λ e k. (λ l h. k.0, keeps_from_within rules k.1)) (λ e k. (out e, keeps_from_within rules k))

  -- and the other way round
  keeps_to_within : (rules : List Row) → AllByRecursion (KeepsThere a b ds) rules → AllByRecursion (Keeps ds) (within a b rules)
  keeps_to_within [] k = tt
  keeps_to_within (r ∷ rules) (k, ks) =
      let here : lies a b r ≡ true → Keeps ds (renumbered a r) = λ e. k (grind (arith, nat_tests)) (grind (arith, nat_tests)) in
      cond_both (lies a b r) (r ∷ filter (lies a b) rules) (filter (lies a b) rules) (λ rs. AllByRecursion (Keeps ds) (map (renumbered a) rs))
      (λ e. (here e, keeps_to_within rules ks)) (λ e. keeps_to_within rules ks)

-- days that keep a rule keep it over the lots from a on and before b
keeps_part : (ds : List ℕ) (a b : ℕ) (r : Row) → Keeps ds r → KeepsThere a b (part ds a (b - a)) r
keeps_part ds a b r k l h = subst (Counts r.floor r.ceiling) (sym (part_part ds a b r.stretch.first r.stretch.length l h)) k

-- the days of a part of a plan are a plan of that part
pub plan_part_lem : (s : Sheet) (ds : List ℕ) (a b : ℕ) → a ≤ b → b ≤ length s.windows → Plan s ds → Plan (part_of a b s) (part ds a (b - a))
plan_part_lem s ds a b l h p =
    let es = part ds a (b - a) in
    record {
      choice = choice_part s.windows ds a (b - a) p.choice;
      keeps = keeps_to_within a b es s.rules (All-weaker (Keeps ds) (KeepsThere a b es) (keeps_part ds a b) s.rules p.keeps);
    }

-- where a part has no plan there is none
pub no_plan_part : (s : Sheet) (a b : ℕ) → a ≤ b → b ≤ length s.windows → NoPlan (part_of a b s) → NoPlan s
no_plan_part s a b l h none ds p = none (part ds a (b - a)) (plan_part_lem s ds a b l h p)

-- the lots from q on, cut before the lot p: one rule, and the days zs
module _ (q p n : ℕ) (from : q ≤ p) (to : p ≤ n) (zs : List ℕ) (r : Row) where
  before_part : r.stretch.first + r.stretch.length ≤ p → q ≤ r.stretch.first → part (take (p - q) zs) (r.stretch.first - q) r.stretch.length ≡ part zs (r.stretch.first - q) r.stretch.length
  before_part e l = part_take zs (p - q) (r.stretch.first - q) r.stretch.length (omega arith)

  after_part : p ≤ r.stretch.first → part (drop (p - q) zs) (r.stretch.first - p) r.stretch.length ≡ part zs (r.stretch.first - q) r.stretch.length
  after_part e = part_drop zs (p - q) (r.stretch.first - p) (r.stretch.first - q) r.stretch.length (omega arith)

  keeps_before : KeepsThere q n zs r → KeepsThere q p (take (p - q) zs) r
  keeps_before k l h = subst (Counts r.floor r.ceiling) (sym (before_part h l)) (k l (omega arith))

  keeps_after : KeepsThere q n zs r → KeepsThere p n (drop (p - q) zs) r
  keeps_after k l h = subst (Counts r.floor r.ceiling) (sym (after_part l)) (k (omega arith) h)

  keeps_join : KeepsThere q p (take (p - q) zs) r → KeepsThere p n (drop (p - q) zs) r → (r.stretch.first + r.stretch.length ≤ p) ⊎ (p ≤ r.stretch.first) → KeepsThere q n zs r
  keeps_join x y (inl e) l h = subst (Counts r.floor r.ceiling) (before_part e l) (x l e)
  keeps_join x y (inr e) l h = subst (Counts r.floor r.ceiling) (after_part e) (y e h)

-- the same for all rules
module _ (q p n : ℕ) (from : q ≤ p) (to : p ≤ n) (zs : List ℕ) where
  keeps_join_all : (rules : List Row) → Border p rules → AllByRecursion (KeepsThere q p (take (p - q) zs)) rules → AllByRecursion (KeepsThere p n (drop (p - q) zs)) rules → AllByRecursion (KeepsThere q n zs) rules
  keeps_join_all [] cut xs ys = tt
  keeps_join_all (r ∷ rules) (c, cut) (x, xs) (y, ys) = (keeps_join q p n from to zs r x y c, keeps_join_all rules cut xs ys)

-- the same for plans
module _ (s : Sheet) (q p n : ℕ) (from : q ≤ p) (to : p ≤ n) (zs : List ℕ) where
  -- the windows of both sides, as the whole part has them
  front : take (p - q) (part s.windows q (n - q)) ≡ part s.windows q (p - q)
  front = take-take (p - q) (n - q) (drop q s.windows) (omega arith)

  back : drop (p - q) (part s.windows q (n - q)) ≡ part s.windows p (n - p)
  back =
      let e : n - q ≡ p - q + (n - p) = omega arith in
      let f : q + (p - q) ≡ p = omega arith in
      ap (λ k. drop (p - q) (take k (drop q s.windows))) e ∙ drop-take (p - q) (n - p) (drop q s.windows)
      ∙ ap (take (n - p)) (drop-drop (p - q) q s.windows ∙ ap (λ k. drop k s.windows) f)

  -- the days before the border are a plan of the lots there
  pub plan_before : Plan (part_of q n s) zs → Plan (part_of q p s) (take (p - q) zs)
  plan_before plan =
      let xs = take (p - q) zs in
      let k = All-weaker (KeepsThere q n zs) (KeepsThere q p xs) (keeps_before q p n from to zs) s.rules (keeps_from_within q n zs s.rules plan.keeps) in
      record {
        choice = subst (λ vs. Choice vs xs) front (choice_take (p - q) (part s.windows q (n - q)) zs plan.choice);
        keeps = keeps_to_within q p xs s.rules k;
      }

  -- and so are those after it
  pub plan_after : Plan (part_of q n s) zs → Plan (part_of p n s) (drop (p - q) zs)
  plan_after plan =
      let ys = drop (p - q) zs in
      let k = All-weaker (KeepsThere q n zs) (KeepsThere p n ys) (keeps_after q p n from to zs) s.rules (keeps_from_within q n zs s.rules plan.keeps) in
      record {
        choice = subst (λ vs. Choice vs ys) back (choice_drop (p - q) (part s.windows q (n - q)) zs plan.choice);
        keeps = keeps_to_within p n ys s.rules k;
      }

  -- where no stretch goes across, plans of both are a plan of all
  pub plan_join : Border p s.rules → Plan (part_of q p s) (take (p - q) zs) → Plan (part_of p n s) (drop (p - q) zs) → Plan (part_of q n s) zs
  plan_join border before after =
      let xs = take (p - q) zs in
      let ys = drop (p - q) zs in
      let all = part s.windows q (n - q) in
      let left : Choice (take (p - q) all) xs = subst (λ vs. Choice vs xs) (sym front) before.choice in
      let right : Choice (drop (p - q) all) ys = subst (λ vs. Choice vs ys) (sym back) after.choice in
      let both : Choice (take (p - q) all ++ drop (p - q) all) (xs ++ ys) = choice_append (take (p - q) all) (drop (p - q) all) xs ys left right in
      let days : Choice (take (p - q) all ++ drop (p - q) all) zs = subst (Choice (take (p - q) all ++ drop (p - q) all)) (take-append-drop (p - q) zs) both in
      let k = keeps_join_all q p n from to zs s.rules border (keeps_from_within q p xs s.rules before.keeps) (keeps_from_within p n ys s.rules after.keeps) in
      record { choice = subst (λ vs. Choice vs zs) (take-append-drop (p - q) all) days; keeps = keeps_to_within q n zs s.rules k }

-- the earliest plans of both sides of a border, in a row, are the earliest of all
pub earliest_join : (s : Sheet) (xs ys : List ℕ) (q p n : ℕ) → q ≤ p → p ≤ n → n ≤ length s.windows → Border p s.rules
    → Earliest (part_of q p s) xs → Earliest (part_of p n s) ys → Earliest (part_of q n s) (xs ++ ys)
earliest_join s xs ys q p n from to there border before after =
    let m = p - q in
    let long : length (part s.windows q m) ≡ m = part_length s.windows q m (omega arith) in
    let lx : length xs ≡ m = choice_length (part s.windows q m) xs before.plan.choice ∙ long in
    let left = subst (Plan (part_of q p s)) (sym (take_at xs ys m lx)) before.plan in
    let right = subst (Plan (part_of p n s)) (sym (drop_at xs ys m lx)) after.plan in
    record {
      plan = plan_join s q p n from to (xs ++ ys) border left right;
      first = λ es plan.
          let b = plan_before s q p n from to es plan in
          let a = plan_after s q p n from to es plan in
          let lu : length (take m es) ≡ m = choice_length (part s.windows q m) (take m es) b.choice ∙ long in
          subst (λ ds. (ds ≡ xs ++ ys) ⊎ Earlier (xs ++ ys) ds) (take-append-drop m es)
          (earlier_join xs ys (take m es) (drop m es) (lx ∙ sym lu) (before.first (take m es) b) (after.first (drop m es) a));
    }

-- rules that all end before n are the rules of the first n lots
pub within_all : (rules : List Row) (n : ℕ) → AllByRecursion (λ r. r.stretch.first + r.stretch.length ≤ n) rules → within 0 n rules ≡ rules
within_all [] n a = refl
within_all (r ∷ rules) n (h, a) =
    let here : lies 0 n r ≡ true = grind (arith, nat_tests) in
    let zero : r.stretch.first - 0 ≡ r.stretch.first = omega arith in
    let same : renumbered 0 r ≡ r = ap (λ k. record r { stretch = record r.stretch { first = k } }) zero in
    let kept = ap (map (renumbered 0)) (cond-true (lies 0 n r) (r ∷ filter (lies 0 n) rules) (filter (lies 0 n) rules) here) in
    let e = within_all rules n a in
    cc

-- rules of one lot or more: none lies among no lots
pub within_none : (rules : List Row) (n : ℕ) → AllByRecursion (λ r. 1 ≤ r.stretch.length) rules → within n n rules ≡ []
within_none [] n a = refl
within_none (r ∷ rules) n (h, a) =
    let out : lies n n r ≡ false = grind (arith, nat_tests) in
    ap (map (renumbered n)) (cond-false (lies n n r) (r ∷ filter (lies n n) rules) (filter (lies n n) rules) out) ∙ within_none rules n a

only_none : (es : List ℕ) → Plan (sheet [] []) es → (es ≡ []) ⊎ Earlier [] es
only_none [] p = inl refl
only_none (e ∷ es) p = absurd p.choice

no_lots : Earliest (sheet [] []) []
no_lots = record { plan = record { choice = tt; keeps = tt }; first = only_none }

-- the whole sheet is the part of all its lots
pub part_all : (s : Sheet) (n : ℕ) → length s.windows ≡ n → AllByRecursion (λ r. r.stretch.first + r.stretch.length ≤ n) s.rules → part_of 0 n s ≡ s
part_all s n long fit =
    let e : n - 0 ≡ n = omega arith in
    ap₂ sheet (ap (λ k. take k s.windows) e ∙ take_all n s.windows (omega arith)) (within_all s.rules n fit)

-- where there are no lots there are no rules, and the plan has no days
pub earliest_none : (s : Sheet) (n : ℕ) → AllByRecursion (λ r. 1 ≤ r.stretch.length) s.rules → Earliest (part_of n n s) []
earliest_none s n some =
    let e : n - n ≡ 0 = omega arith in
    subst (λ t. Earliest t []) (sym (ap₂ sheet (ap (λ k. take k (drop n s.windows)) e) (within_none s.rules n some))) no_lots
