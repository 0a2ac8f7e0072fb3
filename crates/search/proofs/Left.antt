-- What is left where the first days of a lot have failed: the same plans, and the earliest of them.
use Rattle.std.proofs.Common.{◌≡◌, ℕ, zero, suc, ◌<◌, ◌≤◌, List, [], ◌∷◌, length, get_or, take, Ok, Err, Result, refl, subst, inl, inr, arith}
use Rattle.std.specs.List.{AllByRecursion}
use Rattle.std.proofs.lemmas.List.Elements.{AllZip-get_or, length_all_zip}
use Rattle.std.proofs.lemmas.Bool.{cases_lt}
use Rattle.store.specs.declared.window.Window.{Window}
use Rattle.store.specs.Sound.{Sound}
use Rattle.store.specs.Windows.{window, window_at, Narrowed, Narrower}
use Rattle.store.proofs.Narrowing.{narrowed_set, narrowed_trans}
use Rattle.nvalue.specs.Choices.{Choice}
use Rattle.rules.specs.Firm.{GreatestFirm, NoFirm}
use Rattle.rules.specs.Plans.{Keeps, Plan, NoPlan, Earliest, SamePlans, lows}
use Rattle.rules.specs.Sheets.{Sheet}
use Rattle.rules.proofs.Points.{settled_plans, no_firm_no_plan_lem}
use Rattle.rules.proofs.Replaced.{plan_at, plan_back, plan_day, plan_put}
use Rattle.search.specs.declared.fault.Infeasible.{Infeasible}
use Rattle.search.specs.Search.{Single, Raised, fixed, from_day}
use Rattle.search.specs.Solves.{Finds}
use Rattle.search.proofs.Widths.{width_narrower, width_from}

pub same_refl : (s : Sheet) → SamePlans s s
same_refl s ds = (λ p. p, λ p. p)

pub same_trans : (s t u : Sheet) → SamePlans s t → SamePlans t u → SamePlans s u
same_trans s t u a b ds = (λ p. (b ds).0 ((a ds).0 p), λ p. (a ds).1 ((b ds).1 p))

pub same_none : (s t : Sheet) → SamePlans s t → NoPlan t → NoPlan s
same_none s t same none ds p = none ds ((same ds).0 p)

pub same_earliest : (s t : Sheet) (ds : List ℕ) → SamePlans s t → Earliest t ds → Earliest s ds
same_earliest s t ds same e = record { plan = (same ds).1 e.plan; first = λ es p. e.first es ((same es).0 p) }

-- so a search of one answers for the other
pub same_answer : (s t : Sheet) (ds : List ℕ) (r : Result (Unit {0}) Infeasible) → SamePlans s t → Finds t r ds → Finds s r ds
same_answer s t ds (Ok done) same e = same_earliest s t ds same e
same_answer s t ds (Err fault) same none = same_none s t same none

-- choices have the same days where windows have one day only
choice_single : (ws : List Window) (xs ys : List ℕ) (n : ℕ) → Choice ws xs → Choice ws ys → ((k : ℕ) → k < n → Single (window_at ws k)) → take n xs ≡ take n ys
choice_single ws xs ys zero c d s = refl
choice_single [] [] [] (suc n) c d s = refl
choice_single [] [] (y ∷ ys) (suc n) c d s = absurd d
choice_single [] (x ∷ xs) ys (suc n) c d s = absurd c
choice_single (w ∷ ws) [] ys (suc n) c d s = absurd c
choice_single (w ∷ ws) (x ∷ xs) [] (suc n) c d s = absurd d
choice_single (w ∷ ws) (x ∷ xs) (y ∷ ys) (suc n) (b, c) (e, d) s =
    let z = s 0 (omega arith) in
    let h : x ≡ y = omega arith in
    let t = choice_single ws xs ys n c d (λ k l. s (suc k) (omega arith)) in
    cc

-- the only choice where no window has more than one day
choice_single_lows : (ws : List Window) (ds : List ℕ) → AllByRecursion Single ws → Choice ws ds → ds ≡ lows ws
choice_single_lows [] [] s c = refl
choice_single_lows [] (d ∷ ds) s c = absurd c
choice_single_lows (w ∷ ws) [] s c = absurd c
choice_single_lows (w ∷ ws) (d ∷ ds) (s, ss) (b, c) = let h : d ≡ w.low = omega arith in let t = choice_single_lows ws ds ss c in cc

pub single_none : (s : Sheet) → AllByRecursion Single s.windows → (AllByRecursion (Keeps (lows s.windows)) s.rules → ⊥) → NoPlan s
single_none s single out ds p = out (subst (λ es. AllByRecursion (Keeps es) s.rules) (choice_single_lows s.windows ds single p.choice) p.keeps)

module _ (s : Sheet) (lot : ℕ) (there : lot < length s.windows) where
  -- a plan that gives the lot its first day is one of the fixed sheet
  pub plan_fixed : (ds : List ℕ) → Plan s ds → get_or ds lot 0 ≡ (window_at s.windows lot).low → Plan (fixed lot s) ds
  plan_fixed ds p e = plan_put s lot _ ds p (omega arith, omega arith)

  plan_unfixed : (window_at s.windows lot).low ≤ (window_at s.windows lot).high → (ds : List ℕ) → Plan (fixed lot s) ds → Plan s ds
  plan_unfixed full ds p = let b = plan_day s lot _ ds there p in plan_back s lot _ ds p (omega (arith, b.0), omega (arith, b.1))

  -- the earliest plan with the lot's first day is the earliest of all, where the lots before have no choice
  pub earliest_fixed : (ds : List ℕ) → (window_at s.windows lot).low ≤ (window_at s.windows lot).high → ((k : ℕ) → k < lot → Single (window_at s.windows k)) → Earliest (fixed lot s) ds → Earliest s ds
  earliest_fixed ds full single e =
      let p = plan_unfixed full ds e.plan in
      let at = plan_day s lot _ ds there e.plan in
      record {
        plan = p;
        first = λ es q.
            let b = plan_at s es lot there q in
            elim (cases_lt (window_at s.windows lot).low (get_or es lot 0)) [
              | inl l ↦ inr (record { lot = lot; same = choice_single s.windows ds es lot p.choice q.choice single; smaller = omega (arith, at.1) })
              | inr l ↦ e.first es (plan_fixed es q (omega (arith, b.0)))
            ];
      }

  -- where no plan gives the lot a day before some day, its window may as well begin there
  pub same_from : (day : ℕ) → (window_at s.windows lot).low ≤ day → ((ds : List ℕ) → Plan s ds → day ≤ get_or ds lot 0) → SamePlans s (from_day lot day s)
  same_from day l h ds = (
    λ p. plan_put s lot _ ds p (h ds p, (plan_at s ds lot there p).1),
    λ p. let b = plan_day s lot _ ds there p in plan_back s lot _ ds p (omega (arith, b.0), b.1),
  )

  -- and there is none where that lies past the last day
  pub past_last : (day : ℕ) → (window_at s.windows lot).high < day → ((ds : List ℕ) → Plan s ds → day ≤ get_or ds lot 0) → NoPlan s
  past_last day l h ds p = let b = plan_at s ds lot there p in omega (arith, h ds p, b.1)

-- lots with no choice keep none in narrower windows
pub single_narrower : (vs ws : List Window) (n : ℕ) → Narrowed vs ws → n ≤ length ws → ((k : ℕ) → k < n → Single (window_at ws k)) → (k : ℕ) → k < n → Single (window_at vs k)
single_narrower vs ws n e b s k h =
    let i = AllZip-get_or Narrower vs ws k (window 0 0) (window 0 0) e (omega (arith, length_all_zip Narrower vs ws e)) in
    omega (arith, s k h, i.0, i.1)

-- a lot goes on to a later day, and all is settled again
module _ (s : Sheet) (lot day : ℕ) (there : lot < length s.windows) (l : (window_at s.windows lot).low < day) (h : day ≤ (window_at s.windows lot).high) (after : (ds : List ℕ) → Plan s ds → day ≤ get_or ds lot 0)
    (u : Sheet) (begun : u ≡ from_day lot day s) where
  pub raised : (t : Sheet) → GreatestFirm u t → AllByRecursion Sound t.windows → Raised s t
  raised t firm sound =
      let v = from_day lot day s in
      let g = subst (λ x. GreatestFirm x t) begun firm in
      let near : Narrowed v.windows s.windows = narrowed_set s.windows lot (window day (window_at s.windows lot).high) (omega arith, omega arith) in
      record {
        firm = g.firm;
        sound = sound;
        inside = narrowed_trans t.windows v.windows s.windows g.inside.windows near;
        less = omega (arith, width_narrower t.windows v.windows g.inside.windows, width_from s lot there day l h);
        plans = same_trans s v t (same_from s lot there day (omega arith) after) (settled_plans v t g);
      }

  pub raised_none : NoFirm u → NoPlan s
  raised_none none_firm =
      let v = from_day lot day s in
      same_none s v (same_from s lot there day (omega arith) after) (no_firm_no_plan_lem v (subst NoFirm begun none_firm))
