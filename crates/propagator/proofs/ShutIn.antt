-- Where a reach has seen all days of its way: the days are all those of the lots that are shut in, and no other lot can have one.
use Rattle.std.proofs.Common.{◌≡◌, ℕ, zero, suc, ◌+◌, ◌<◌, ◌≤◌, Bool, true, false, ◌&&◌, ◌||◌, leb, ◌⊎◌, List, [], ◌∷◌, length, get_or, sym, refl, ap, ◌∙◌, subst, inl, inr, arith}
use Rattle.std.proofs.lemmas.Bool.{both_ways}
use Rattle.std.proofs.lemmas.Bool.Decides.{nat_tests}
use Rattle.store.specs.declared.window.Window.{Window}
use Rattle.store.specs.Windows.{window, window_at}
use Rattle.nvalue.specs.Choices.{In}
use Rattle.nvalue.specs.Nvalue.{has}
use Rattle.nvalue.proofs.Choices.{choice_get_or, choice_length}
use Rattle.propagator.specs.declared.reach.Reach.{Reach}
use Rattle.propagator.specs.Supports.{Best, NoSupport}
use Rattle.extremes.specs.Flags.{Set, Unset}
use Rattle.propagator.specs.Matching.{Spared}
use Rattle.propagator.specs.Reach.{CanReach, Passed, Seen}
use Rattle.propagator.proofs.HallSet.{hall_set, has_kept, kept}

-- the lots that are spare, or have a day of the block
abbrev pub flags : List Bool → List ℕ → Window → List Bool
flags [] ds block = []
flags (b ∷ bs) [] block = []
flags (b ∷ bs) (d ∷ ds) block = (b || (leb block.low d && leb d block.high)) ∷ flags bs ds block

length_flags : (bs : List Bool) (ds : List ℕ) (block : Window) → length bs ≡ length ds → length (flags bs ds block) ≡ length ds
length_flags [] [] block e = refl
length_flags [] (d ∷ ds) block e = absurd (omega arith)
length_flags (b ∷ bs) [] block e = absurd (omega arith)
length_flags (b ∷ bs) (d ∷ ds) block e = ap suc (length_flags bs ds block (omega arith))

flag_is : (bs : List Bool) (ds : List ℕ) (block : Window) (k : ℕ) → length bs ≡ length ds → k < length ds
    → get_or (flags bs ds block) k false ≡ (get_or bs k false || (leb block.low (get_or ds k 0) && leb (get_or ds k 0) block.high))
flag_is bs [] block k e l = absurd (omega arith)
flag_is [] (d ∷ ds) block k e l = absurd (omega arith)
flag_is (b ∷ bs) (d ∷ ds) block zero e l = refl
flag_is (b ∷ bs) (d ∷ ds) block (suc k) e l = flag_is bs ds block k (omega arith) (omega arith)

flag_from : (b : Bool) (low d high : ℕ) → (b ≡ true) ⊎ ((low ≤ d) × (d ≤ high)) → (b || (leb low d && leb d high)) ≡ true
flag_from true low d high f = refl
flag_from false low d high (inl e) = absurd (both_ways false refl e)
flag_from false low d high (inr i) = let l = i.0 in let h = i.1 in grind (arith, nat_tests)

flag_to : (b : Bool) (low d high : ℕ) → (b || (leb low d && leb d high)) ≡ true → (b ≡ true) ⊎ ((low ≤ d) × (d ≤ high))
flag_to true low d high f = inl refl
flag_to false low d high f = inr (grind (arith, nat_tests), grind (arith, nat_tests))

module _ (ws : List Window) (days : List ℕ) (best : Best ws days) (spare : List Bool) (each : length spare ≡ length ws) (spared : Spared ws days spare) (lot : ℕ) (there : lot < length ws) (bound : Unset spare lot)
    (reach : Reach) (p : Passed ws days spare lot reach) (from : reach.from ≡ reach.low) (to : reach.to ≡ reach.high + 1) where
  block : Window
  block = window reach.low reach.high

  seen : (d : ℕ) → CanReach reach d → Seen reach d
  seen d o = (omega (arith, o.0), omega (arith, o.1))

  many : length days ≡ length ws
  many = choice_length ws days best.choice

  flagged : (k : ℕ) → k < length ws → Set spare k ⊎ CanReach reach (get_or days k 0) → get_or (flags spare days (window reach.low reach.high)) k false ≡ true
  flagged k b f = flag_is spare days (window reach.low reach.high) k (omega (arith, many)) (omega (arith, many)) ∙ flag_from (get_or spare k false) reach.low (get_or days k 0) reach.high f

  flagged_to : (k : ℕ) → k < length ws → get_or (flags spare days (window reach.low reach.high)) k false ≡ true → Set spare k ⊎ CanReach reach (get_or days k 0)
  flagged_to k b f =
      flag_to (get_or spare k false) reach.low (get_or days k 0) reach.high (sym (flag_is spare days (window reach.low reach.high) k (omega (arith, many)) (omega (arith, many))) ∙ f)

  -- a day that a flagged lot has
  kept_day : (d l : ℕ) → l < length ws → get_or days l 0 ≡ d → Set spare l ⊎ CanReach reach (get_or days l 0) → has d (kept (flags spare days (window reach.low reach.high)) days) ≡ 1
  kept_day d l b e f =
      subst (λ x. has x (kept (flags spare days (window reach.low reach.high)) days) ≡ 1) e (has_kept (flags spare days (window reach.low reach.high)) days l (omega (arith, many)) (flagged l b f))

  can_reach : (d : ℕ) → CanReach reach d → has d (kept (flags spare days (window reach.low reach.high)) days) ≡ 1
  can_reach d o = let h = p.held d (seen d o) in kept_day d h.0 h.1 h.2 (inr (subst (CanReach reach) (sym h.2) o))

  spare_day : (k : ℕ) → k < length ws → Set spare k → (d : ℕ) → In (window_at ws k) d → has d (kept (flags spare days (window reach.low reach.high)) days) ≡ 1
  spare_day k b l d i = let h = spared.closed k b l d i in kept_day d h.0 h.1 h.3 (inl h.2)

  -- a choice with the most different days gives the lot none of the way: it would lose a day
  pub shut : NoSupport ws lot (window reach.low reach.high)
  shut es b i =
      let long = choice_length ws es b.choice in
      let fs = flags spare days (window reach.low reach.high) in
      let own : get_or fs lot false ≡ false = elim (cases_flag (get_or fs lot false)) [
        | inr e ↦ e
        | inl e ↦ elim (flagged_to lot there e) [
          | inl l ↦ absurd (both_ways (get_or spare lot false) bound l)
          | inr o ↦ absurd (p.own (seen (get_or days lot 0) o))
        ]
      ] in
      let fewer = hall_set fs days es (length_flags spare days (window reach.low reach.high) (omega (arith, many))) (omega (arith, many))
      (λ k l a c ne e. flagged k (omega (arith, many)) (inl (spared.company k l (omega (arith, many)) (omega (arith, many)) ne e)))
      (λ k a f.
      let inside = choice_get_or ws es b.choice k (omega arith) in
      elim (flagged_to k (omega arith) f) [
        | inl l ↦ spare_day k (omega arith) l (get_or es k 0) inside
        | inr o ↦ elim (p.closed k (omega arith) (seen (get_or days k 0) o)) [
          | inl l ↦ spare_day k (omega arith) l (get_or es k 0) inside
          | inr g ↦ can_reach (get_or es k 0) (g (get_or es k 0) inside)
        ]
      ])
      lot (omega (arith, long, there)) own (can_reach (get_or es lot 0) i) in
      absurd (omega (arith, fewer, b.most days best.choice))
    where
      cases_flag : (f : Bool) → (f ≡ true) ⊎ (f ≡ false)
      cases_flag true = inl refl
      cases_flag false = inr refl
