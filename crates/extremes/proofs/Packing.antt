-- The packing of lots into days: what stands after so many turns, at the start and after one turn more.
use Rattle.std.proofs.Common.{◌≡◌, ℕ, ◌+◌, ◌<◌, ◌≤◌, Bool, true, cond, eqb, List, drop, [], ◌∷◌, length, get_or, take, set, sum_by, refl, sym, ap, ◌∙◌, subst, inl, inr, arith}
use Rattle.std.specs.List.Sorted.{IsNonDecreasingBy, IsPermutation}
use Rattle.std.specs.List.{AllByRecursion}
use Rattle.std.proofs.ByRecursion.{All-get_or}
use Rattle.std.proofs.lemmas.List.{length-set}
use Rattle.std.proofs.lemmas.List.Sums.{sum_by-cons, sum_by_more}
use Rattle.std.proofs.lemmas.Bool.Decides.{nat_tests}
use Rattle.store.specs.declared.window.Window.{Window}
use Rattle.store.specs.Windows.{window, window_at}
use Rattle.nvalue.specs.Choices.{In}
use Rattle.nvalue.specs.Nvalue.{has}
use Rattle.extremes.specs.declared.matching.Most.{Most}
use Rattle.extremes.specs.Orders.{slots}
use Rattle.store.specs.Sound.{Sound}
use Rattle.std.proofs.lemmas.List.{drop-set-lt}
use Rattle.extremes.specs.Flags.{Unset}
use Rattle.extremes.specs.Turns.{EndBefore, Takes, LeftOver, Turn}
use Rattle.extremes.proofs.Orders.{length_order, slot_apart, slot_high, slot_there}
use Rattle.extremes.proofs.Packed.{Taker, days_of, windows_of, Packed, packed_takes, packed_leaves, Chosen, chosen_more, lot_in_file}

-- after t turns: some lots have taken days and the others are left over, where no code holds which
pub record Packing (ws : List Window) (order : List (ℕ × ℕ)) (t : ℕ) (taken : List Bool) (days : List ℕ) (runs : List Window) (most : Most) : Type 0 where
  pub takers : List Taker
  pub overs : List Window
  pub last : ℕ
  pub ends : EndBefore (length taken) ws
  pub count : most.count ≡ length takers
  pub few : most.count ≤ t
  pub room : most.runs ≤ t
  pub packed : Packed taken runs most.runs takers overs last
  pub chosen : Chosen ws order t days (days_of takers)
  pub sums : (f : Window → ℕ) → sum_by f (windows_of takers) + sum_by f overs ≡ sum_by (λ s. f (window_at ws s.1)) (take t order)
  pub ahead : (k : ℕ) → t ≤ k → k < length order → last ≤ (get_or order k (0, 0)).0

-- before the first turn no day is taken
pub packing_none : (ws : List Window) (order : List (ℕ × ℕ)) (taken : List Bool) (days : List ℕ) (runs : List Window) → ((d : ℕ) → Unset taken d) → EndBefore (length taken) ws
    → Packing ws order 0 taken days runs (record { count = 0; runs = 0 })
packing_none ws order taken days runs free ends = record {
  takers = [];
  overs = [];
  last = 0;
  ends = ends;
  count = refl;
  few = omega arith;
  room = omega arith;
  packed = record {
    marks = λ d. ap (λ b. cond b 1 0) (free d);
    apart = refl;
    early = tt;
    held = tt;
    full = λ k l. absurd (omega arith);
    rising = λ j k a l. absurd (omega arith);
  };
  chosen = record {
    chosen = λ k l. absurd (omega arith);
    known = λ k l. absurd (omega arith);
    used = λ d h. absurd (omega arith);
  };
  sums = λ f. refl;
  ahead = λ k a l. omega arith;
}

module _ (ws : List Window) (order : List (ℕ × ℕ)) (shuffled : IsPermutation (slots 0 ws) order) (rises : IsNonDecreasingBy (λ s. s.0) order) (sound : AllByRecursion Sound ws)
    (t : ℕ) (taken : List Bool) (days : List ℕ) (runs : List Window) (most : Most) (p : Packing ws order t taken days runs most)
    (more : t < length ws) (day_each : length days ≡ length ws) (run_room : length ws ≤ length runs) (day : ℕ) (taken' : List Bool) (runs' : List Window) (most' : Most) where
  -- the next lot's window ends no earlier than those before, and no later than those to come
  next_later : p.last ≤ (window_at ws (lot_in_file order t)).high
  next_later = omega (arith, p.ahead t (omega arith) (omega (arith, length_order ws order shuffled)), slot_high ws order shuffled t more)

  next_ahead : (k : ℕ) → t + 1 ≤ k → k < length order → (window_at ws (lot_in_file order t)).high ≤ (get_or order k (0, 0)).0
  next_ahead k a b = omega (arith, rises t k (0, 0) (omega arith) b, slot_high ws order shuffled t more)

  next_sum : (f : Window → ℕ) → sum_by (λ s. f (window_at ws s.1)) (take (t + 1) order) ≡ sum_by (λ s. f (window_at ws s.1)) (take t order) + f (window_at ws (lot_in_file order t))
  next_sum f = sum_by_more (λ s. f (window_at ws s.1)) order t (0, 0) (omega (arith, length_order ws order shuffled))

  next_sound : Sound (window_at ws (lot_in_file order t))
  next_sound = All-get_or Sound ws (lot_in_file order t) (window 0 0) (slot_there ws order shuffled t more) sound

  next_chosen : (is : List ℕ) → In (window_at ws (lot_in_file order t)) day → ((x : ℕ) → has x is ≡ cond (eqb x day) 1 (has x (days_of p.takers))) → Chosen ws order (t + 1) (set days (lot_in_file order t) day) is
  next_chosen is i g =
      chosen_more ws order t days (days_of p.takers) is day p.chosen (λ k l. slot_apart ws order shuffled k t l more) (omega (arith, slot_there ws order shuffled t more)) i g

  packing_takes : Takes (window_at ws (lot_in_file order t)) day taken runs most taken' runs' most' → Packing ws order (t + 1) taken' (set days (lot_in_file order t) day) runs' most'
  packing_takes x =
      let w = window_at ws (lot_in_file order t) in
      let here : day < length taken = omega (arith, x.inside.1, p.ends (lot_in_file order t) (slot_there ws order shuffled t more)) in
      record {
        takers = (w, day) ∷ p.takers;
        overs = p.overs;
        last = w.high;
        ends = subst (λ n. EndBefore n ws) (sym (ap length x.marked ∙ length-set taken day true)) p.ends;
        count = omega (arith, x.count, p.count);
        few = omega (arith, x.count, p.few);
        room = omega (arith, x.top, p.room);
        packed = rw (x.marked, x.same, x.top) (packed_takes taken runs most.runs p.takers p.overs p.last p.packed w next_later day here x.free x.first);
        chosen = next_chosen (day ∷ days_of p.takers) x.inside (λ y. refl);
        sums = λ f. omega (arith, next_sum f, p.sums f, sum_by-cons f w (windows_of p.takers));
        ahead = next_ahead;
      }

  packing_leaves : LeftOver (window_at ws (lot_in_file order t)) day taken runs most taken' runs' most' → Packing ws order (t + 1) taken' (set days (lot_in_file order t) day) runs' most'
  packing_leaves x =
      let w = window_at ws (lot_in_file order t) in
      let there : x.kept < length runs = omega (arith, x.fewer, p.room) in
      let low = x.full w.low x.within next_sound.0 in
      let at : has w.low (days_of p.takers) ≡ 1 = let m = p.packed.marks w.low in grind arith in
      record {
        takers = p.takers;
        overs = w ∷ p.overs;
        last = w.high;
        ends = subst (λ n. EndBefore n ws) (sym (ap length x.same)) p.ends;
        count = x.count ∙ p.count;
        few = omega (arith, x.count, p.few);
        room = omega (arith, x.top, x.fewer, p.room);
        packed =
            rw (x.same, x.pushed, x.top)
            (packed_leaves taken runs most.runs p.takers p.overs p.last p.packed w next_later x.start x.kept there x.within x.full x.edge x.fewer x.gone x.left);
        chosen = next_chosen (days_of p.takers) (omega (arith, x.lowest), omega (arith, x.lowest, next_sound.0)) (λ y. let e = x.lowest in grind (arith, nat_tests));
        sums = λ f. omega (arith, next_sum f, p.sums f, sum_by-cons f w p.overs);
        ahead = next_ahead;
      }

  pub packing_more : Turn (window_at ws (lot_in_file order t)) day taken runs most taken' runs' most' → Packing ws order (t + 1) taken' (set days (lot_in_file order t) day) runs' most'
  packing_more (inl x) = packing_takes x
  packing_more (inr x) = packing_leaves x

  -- a turn writes no run past the lots
  pub packing_rest : Turn (window_at ws (lot_in_file order t)) day taken runs most taken' runs' most' → drop (length ws) runs' ≡ drop (length ws) runs
  packing_rest (inl x) = ap (drop (length ws)) x.same
  packing_rest (inr x) = ap (drop (length ws)) x.pushed ∙ drop-set-lt (length ws) runs x.kept _ (omega (arith, x.fewer, p.room))
