-- A reach from the day that a lot would take: where the lots that have the days can go, and what shuts them in.
use Rattle.std.proofs.Common.{◌≡◌, ℕ, ◌+◌, ◌<◌, ◌≤◌, ◌≢◌, min, max, Bool, false, ◌⊎◌, List, length, get_or, set, sym, refl, ap, ◌∙◌, subst, inl, inr, arith}
use Rattle.std.proofs.lemmas.List.{get_or-set_other, get_or-set_same}
use Rattle.std.proofs.lemmas.Bool.{both_ways, cases_eq, cases_lt}
use Rattle.store.specs.declared.window.Window.{Window}
use Rattle.store.specs.Windows.{window_at}
use Rattle.nvalue.specs.Choices.{In, Choice}
use Rattle.nvalue.specs.Nvalue.{nvalue}
use Rattle.nvalue.proofs.Choices.{choice_get_or, choice_length, choice_set}
use Rattle.nvalue.proofs.Nvalue.{nvalue_unset}
use Rattle.propagator.specs.declared.reach.Reach.{Reach}
use Rattle.propagator.specs.Supports.{Best, BestDay}
use Rattle.extremes.specs.Flags.{Set, Unset}
use Rattle.propagator.specs.Reach.{Facing, CanReach, Passed, Seen, Sees}
use Rattle.propagator.proofs.Moved.{moved_free, moved_gains, moved_shared}

-- A choice with no lot at the first day, and with a lot too many at day e: only lots with days that are seen have moved.
pub record Chain (ws : List Window) (days : List ℕ) (reach : Reach) (v e : ℕ) : Type 0 where
  pub es : List ℕ
  pub choice : Choice ws es
  pub left : (k : ℕ) → k < length ws → get_or es k 0 ≡ v → ⊥
  pub still : (k : ℕ) → (Seen reach (get_or days k 0) → ⊥) → get_or es k 0 ≡ get_or days k 0
  pub within : (k : ℕ) → k < length ws → (get_or es k 0 ≡ e) ⊎ ((m : ℕ) × (m < length ws) × (get_or es k 0 ≡ get_or days m 0))
  pub count : nvalue days ≤ nvalue es + 1
  pub new : ((m : ℕ) → m < length ws → get_or days m 0 ≡ e → ⊥) → nvalue days ≤ nvalue es
  pub last : ℕ
  pub there : last < length ws
  pub at : get_or es last 0 ≡ e
  pub moved : Seen reach (get_or days last 0)

-- The lot's own day is not seen yet; every day of the way can be reached, and the lots that have the days seen are spare or reach no further.
pub record Reaching (ws : List Window) (days : List ℕ) (spare : List Bool) (lot v : ℕ) (reach : Reach) : Type 0 where
  pub on : CanReach reach v
  pub first : Seen reach v ⊎ ((e : ℕ) → CanReach reach e → (Seen reach e → ⊥) → e ≡ v)
  pub chains : (e : ℕ) → CanReach reach e → (Seen reach e → ⊥) → e ≢ v → Chain ws days reach v e
  pub passed : Passed ws days spare lot reach

module _ (ws : List Window) (days : List ℕ) (best : Best ws days) (spare : List Bool) (lot v : ℕ) (there : lot < length ws) (inside : In (window_at ws lot) v) where
  many : length days ≡ length ws
  many = choice_length ws days best.choice

  pub reaching_starts : (reach : Reach) → Facing ws days spare lot v reach → Reaching ws days spare lot v reach
  reaching_starts reach f = record {
    on = f.can_reach;
    first = inr f.only;
    chains = λ e o u ne. absurd (ne (f.only e o u));
    passed = f.passed;
  }

  -- where no lot stands at the day and nothing else is lost, the lot takes it
  takes : (es : List ℕ) → Choice ws es → nvalue days ≤ nvalue (set es lot v) → BestDay ws lot v
  takes es c more = (
    set es lot v,
    record { choice = choice_set ws es lot v c (λ _. inside); most = λ zs d. omega (arith, best.most zs d) },
    get_or-set_same es lot v 0 (omega (arith, choice_length ws es c)),
  )

  module _ (reach reach' : Reach) (e : ℕ) (p : Reaching ws days spare lot v reach) (s : Sees reach e reach') where
    -- the reach comes to the lot's own day
    pub reaches_own : e ≡ get_or days lot 0 → v ≢ get_or days lot 0 → BestDay ws lot v
    reaches_own is other =
        let x = p.chains e s.can_reach s.unseen (λ q. other (sym q ∙ is)) in
        let long = choice_length ws x.es x.choice in
        let stays : get_or x.es lot 0 ≡ e = x.still lot (λ q. s.unseen (subst (Seen reach) (sym is) q)) ∙ sym is in
        let apart : x.last ≢ lot = λ q. s.unseen (subst (Seen reach) (ap (λ k. get_or days k 0) q ∙ sym is) x.moved) in
        let more = moved_gains x.es lot v (omega arith) x.last (omega (arith, x.there)) apart (x.at ∙ sym stays) (λ k b. x.left k (omega arith)) in
        takes x.es x.choice (omega (arith, x.count, more))

    -- the reach comes to a free day
    pub reaches_free : ((m : ℕ) → m < length ws → get_or days m 0 ≡ e → ⊥) → BestDay ws lot v
    reaches_free free = elim (cases_eq e v) [
      | inl q ↦ takes days best.choice (moved_free days lot v (omega (arith, many)) (λ k b h. free k (omega (arith, many)) (h ∙ sym q)))
      | inr ne ↦
          let x = p.chains e s.can_reach s.unseen ne in
          let long = choice_length ws x.es x.choice in
          takes x.es x.choice (omega (arith, x.new free, moved_free x.es lot v (omega arith) (λ k b. x.left k (omega arith))))
    ]

    seen_by : (d : ℕ) → (Seen reach' d → ⊥) → Seen reach d → ⊥
    seen_by d u q = u (s.kept d q)

    on_start : Seen reach' v
    on_start = elim p.first [
      | inl q ↦ s.kept v q
      | inr only ↦ subst (Seen reach') (only e s.can_reach s.unseen) s.here
    ]

    -- a lot has the day
    module _ (k : ℕ) (k_there : k < length ws) (k_has : get_or days k 0 ≡ e) (company : (j l : ℕ) → j < length ws → l < length ws → j ≢ l → get_or days j 0 ≡ get_or days l 0 → Set spare j) where
      held_more : (d : ℕ) → Seen reach' d → (l : ℕ) × (l < length ws) × (get_or days l 0 ≡ d)
      held_more d q = elim (cases_eq d e) [ inl i ↦ (k, k_there, k_has ∙ sym i) | inr ne ↦ p.passed.held d (s.only d q ne) ]

      own_more : (e ≡ get_or days lot 0 → ⊥) → Seen reach' (get_or days lot 0) → ⊥
      own_more other q = elim (cases_eq (get_or days lot 0) e) [ inl i ↦ other (sym i) | inr ne ↦ p.passed.own (s.only (get_or days lot 0) q ne) ]

      chain_kept : (is : Reach) → ((d : ℕ) → Seen reach' d → Seen is d) → (d : ℕ) → Chain ws days reach v d → Chain ws days is v d
      chain_kept is more d x = record {
        es = x.es;
        choice = x.choice;
        left = x.left;
        still = λ j u. x.still j (λ q. u (more (get_or days j 0) (s.kept (get_or days j 0) q)));
        within = x.within;
        count = x.count;
        new = x.new;
        last = x.last;
        there = x.there;
        at = x.at;
        moved = more (get_or days x.last 0) (s.kept (get_or days x.last 0) x.moved);
      }

      -- a spare lot: the reach goes no further from here
      pub reaching_spare : Set spare k → (e ≡ get_or days lot 0 → ⊥) → Reaching ws days spare lot v reach'
      reaching_spare is other = record {
        on = (omega (arith, p.on.0, s.low), omega (arith, p.on.1, s.high));
        first = inl on_start;
        chains = λ d o u ne. chain_kept reach' (λ _ q. q) d (p.chains d (omega (arith, o.0, s.low), omega (arith, o.1, s.high)) (seen_by d u) ne);
        passed = record {
          held = held_more;
          closed = λ j b q. elim (cases_eq (get_or days j 0) e) [
            | inl i ↦ elim (cases_eq j k) [
              | inl a ↦ inl (subst (Set spare) (sym a) is)
              | inr a ↦ inl (company j k b k_there a (i ∙ sym k_has))
            ]
            | inr ne ↦ elim (p.passed.closed j b (s.only (get_or days j 0) q ne)) [
              | inl l ↦ inl l
              | inr f ↦ inr (λ d i. let o = f d i in (omega (arith, o.0, s.low), omega (arith, o.1, s.high)))
            ]
          ];
          own = own_more other;
        };
      }

      -- a lot that has its day alone: the reach can go to each day of its window
      module _ (bound : Unset spare k) (wide : Reach) (low : wide.low ≡ min reach'.low (window_at ws k).low) (high : wide.high ≡ max reach'.high (window_at ws k).high) (from : wide.from ≡ reach'.from) (to : wide.to ≡ reach'.to) where
        seen_wide : (d : ℕ) → Seen reach' d → Seen wide d
        seen_wide d q = (omega (arith, q.0), omega (arith, q.1))

        unseen_wide : (d : ℕ) → (Seen wide d → ⊥) → Seen reach' d → ⊥
        unseen_wide d u q = u (seen_wide d q)

        k_in : In (window_at ws k) e
        k_in = subst (In (window_at ws k)) k_has (choice_get_or ws days best.choice k k_there)

        alone : (m : ℕ) → m < length ws → m ≢ k → get_or days m 0 ≡ e → ⊥
        alone m b ne i = both_ways (get_or spare k false) bound (company k m k_there b (λ q. ne (sym q)) (k_has ∙ sym i))

        seen_here : Seen wide (get_or days k 0)
        seen_here = subst (Seen wide) (sym k_has) (seen_wide e s.here)

        -- the lot goes from its day to another of its window
        moves : (d : ℕ) → In (window_at ws k) d → d ≢ v → (es : List ℕ) → Choice ws es → get_or es k 0 ≡ e
            → ((m : ℕ) → m < length ws → m ≢ k → get_or es m 0 ≡ v → ⊥) → ((m : ℕ) → (Seen reach (get_or days m 0) → ⊥) → get_or es m 0 ≡ get_or days m 0)
            → ((m : ℕ) → m < length ws → (n : ℕ) × (n < length ws) × (get_or es m 0 ≡ get_or days n 0)) → nvalue days ≤ nvalue (set es k d) + 1
            → (((m : ℕ) → m < length es → get_or es m 0 ≡ d → ⊥) → nvalue days ≤ nvalue (set es k d)) → Chain ws days wide v d
        moves d i nv es c at left still within count new =
            let long = choice_length ws es c in
            let stays : (m : ℕ) → m ≢ k → get_or (set es k d) m 0 ≡ get_or es m 0 = λ m ne. get_or-set_other es k m d 0 ne in
            let here : get_or (set es k d) k 0 ≡ d = get_or-set_same es k d 0 (omega (arith, long)) in
            record {
              es = set es k d;
              choice = choice_set ws es k d c (λ _. i);
              left = λ m b q. elim (cases_eq m k) [
                | inl a ↦ nv (sym here ∙ sym (ap (λ x. get_or (set es k d) x 0) a) ∙ q)
                | inr a ↦ left m b a (sym (stays m a) ∙ q)
              ];
              still = λ m u.
                  stays m (λ a. u (subst (λ x. Seen wide (get_or days x 0)) (sym a) seen_here)) ∙ still m (λ q. u (seen_wide (get_or days m 0) (s.kept (get_or days m 0) q)));
              within = λ m b. elim (cases_eq m k) [
                | inl a ↦ inl (ap (λ x. get_or (set es k d) x 0) a ∙ here)
                | inr a ↦ let w = within m b in inr (w.0, w.1, stays m a ∙ w.2)
              ];
              count = count;
              new = λ free. new (λ m b q. let w = within m (omega (arith, long)) in free w.0 w.1 (sym w.2 ∙ q));
              last = k;
              there = k_there;
              at = here;
              moved = seen_here;
            }

        -- from the choice itself, where the reach begins here
        first_chain : e ≡ v → (d : ℕ) → In (window_at ws k) d → d ≢ v → Chain ws days wide v d
        first_chain q d i nv =
            moves d i nv days best.choice k_has (λ m b a x. alone m b a (x ∙ sym q)) (λ m _. refl) (λ m b. (m, b, refl)) (nvalue_unset days k d) (λ free. moved_free days k d (omega (arith, many)) free)

        -- or from the choice that brings a lot too many to its day
        next_chain : Chain ws days reach v e → (d : ℕ) → In (window_at ws k) d → d ≢ v → Chain ws days wide v d
        next_chain x d i nv =
            let long = choice_length ws x.es x.choice in
            let unseen : Seen reach (get_or days k 0) → ⊥ = λ q. s.unseen (subst (Seen reach) k_has q) in
            let at : get_or x.es k 0 ≡ e = x.still k unseen ∙ k_has in
            let apart : x.last ≢ k = λ a. unseen (subst (λ z. Seen reach (get_or days z 0)) a x.moved) in
            let room : k < length x.es = omega arith in
            let also : x.last < length x.es = omega (arith, x.there) in
            moves d i nv x.es x.choice at (λ m b a. x.left m b) x.still
            (λ m b. elim (x.within m b) [ inl a ↦ (k, k_there, a ∙ sym k_has) | inr w ↦ w ])
            (omega (arith, x.count, moved_shared x.es k d room x.last also apart (x.at ∙ sym at)))
            (λ free. omega (arith, x.count, moved_gains x.es k d room x.last also apart (x.at ∙ sym at) free))

        chain_more : (d : ℕ) → In (window_at ws k) d → d ≢ v → Chain ws days wide v d
        chain_more d i nv = elim (cases_eq e v) [
          | inl q ↦ first_chain q d i nv
          | inr ne ↦ next_chain (p.chains e s.can_reach s.unseen ne) d i nv
        ]

        -- the way and the window have the day in common, so the wider way is just both
        either : (d : ℕ) → CanReach wide d → CanReach reach d ⊎ In (window_at ws k) d
        either d o = elim (cases_lt d reach.low) [
          | inl a ↦ inr (omega (arith, o.0, low, s.low), omega (arith, k_in.1, s.can_reach.0))
          | inr a ↦ elim (cases_lt reach.high d) [
            | inl b ↦ inr (omega (arith, k_in.0, s.can_reach.1), omega (arith, o.1, high, s.high))
            | inr b ↦ inl (a, b)
          ]
        ]

        pub reaching_widens : (e ≡ get_or days lot 0 → ⊥) → Reaching ws days spare lot v wide
        reaching_widens other = record {
          on = (omega (arith, p.on.0, s.low), omega (arith, p.on.1, s.high));
          first = inl (seen_wide v on_start);
          chains = λ d o u ne. elim (either d o) [
            | inl w ↦ chain_kept wide seen_wide d (p.chains d w (seen_by d (unseen_wide d u)) ne)
            | inr i ↦ chain_more d i ne
          ];
          passed = record {
            held = λ d q. held_more d (omega (arith, q.0), omega (arith, q.1));
            closed = λ j b q.
                let q' : Seen reach' (get_or days j 0) = (omega (arith, q.0), omega (arith, q.1)) in
                elim (cases_eq (get_or days j 0) e) [
                  | inl i ↦ elim (cases_eq j k) [
                    | inl a ↦ inr (λ d w. let w' = subst (λ x. In (window_at ws x) d) a w in (omega (arith, w'.0), omega (arith, w'.1)))
                    | inr a ↦ inl (company j k b k_there a (i ∙ sym k_has))
                  ]
                  | inr ne ↦ elim (p.passed.closed j b (s.only (get_or days j 0) q' ne)) [
                    | inl l ↦ inl l
                    | inr f ↦ inr (λ d i. let o = f d i in (omega (arith, o.0, s.low), omega (arith, o.1, s.high)))
                  ]
                ];
            own = λ q. own_more other (omega (arith, q.0), omega (arith, q.1));
          };
        }
