-- The lots that best choices can spare: how one makes others spare, and what it shows at the end.
use Rattle.std.proofs.Common.{◌≡◌, ℕ, zero, suc, ◌+◌, ◌<◌, ◌≤◌, ◌≢◌, Bool, true, false, ◌⊎◌, List, [], ◌∷◌, length, get_or, set, Option, None, Some, sym, refl, ap, ◌∙◌, subst, inl, inr, arith}
use Rattle.std.proofs.lemmas.List.{get_or-set_other, get_or-set_same}
use Rattle.std.proofs.lemmas.Bool.{both_ways, cases_eq}
use Rattle.store.specs.declared.window.Window.{Window}
use Rattle.store.specs.Windows.{window_at}
use Rattle.nvalue.specs.Choices.{In}
use Rattle.nvalue.specs.Nvalue.{nvalue}
use Rattle.nvalue.proofs.Choices.{choice_length, choice_set}
use Rattle.propagator.specs.Supports.{Best}
use Rattle.extremes.specs.Flags.{Set, Unset}
use Rattle.propagator.specs.Matching.{Mate, Mated, Spared, Spread}
use Rattle.propagator.proofs.Moved.{moved_gains, moved_shared}
use Rattle.propagator.proofs.Matched.{none_some}

-- A best choice in which the lot has company, and where only spare lots have moved, each to the day of another.
pub record Spare (ws : List Window) (days : List ℕ) (spare : List Bool) (k : ℕ) : Type 0 where
  pub es : List ℕ
  pub best : Best ws es
  pub other : ℕ
  pub there : other < length ws
  pub apart : other ≢ k
  pub same : get_or es other 0 ≡ get_or es k 0
  pub still : (l : ℕ) → Unset spare l → get_or es l 0 ≡ get_or days l 0
  pub within : (l : ℕ) → l < length ws → (m : ℕ) × (m < length ws) × (get_or es l 0 ≡ get_or days m 0)

-- the lots that are spare so far; those that are not pending have passed it on
pub record Sparing (ws : List Window) (days : List ℕ) (mates : List (Option ℕ)) (spare pending : List Bool) : Type 0 where
  pub shown : (k : ℕ) → Set spare k → (k < length ws) × Spare ws days spare k
  pub company : (k l : ℕ) → k < length ws → l < length ws → k ≢ l → get_or days k 0 ≡ get_or days l 0 → Set spare k
  pub done : (k : ℕ) → Set spare k → Set pending k ⊎ ((day : ℕ) → In (window_at ws k) day → (l : ℕ) × Mate mates day l × Set spare l)
  pub waits : (k : ℕ) → Set pending k → Set spare k

-- a best choice that loses no day where a lot moves is another best choice
pub best_moved : (ws : List Window) (ds : List ℕ) (k day : ℕ) → Best ws ds → In (window_at ws k) day → nvalue ds ≤ nvalue (set ds k day) → Best ws (set ds k day)
best_moved ws ds k day b i more = record { choice = choice_set ws ds k day b.choice (λ _. i); most = λ es c. omega (arith, b.most es c) }

-- clearing a flag sets no other
clear_was : (bs : List Bool) (i k : ℕ) → Set (set bs i false) k → Set bs k
clear_was [] i k t = t
clear_was (b ∷ bs) zero zero t = absurd (both_ways false refl t)
clear_was (b ∷ bs) zero (suc k) t = t
clear_was (b ∷ bs) (suc i) zero t = t
clear_was (b ∷ bs) (suc i) (suc k) t = clear_was bs i k t

module _ (ws : List Window) (days : List ℕ) (best : Best ws days) (mates : List (Option ℕ)) where
  pub sparing_starts : (spare : List Bool) → Mated (length days) days mates spare → Sparing ws days mates spare spare
  sparing_starts spare s =
      let many = choice_length ws days best.choice in
      record {
        shown = λ k l.
            let was = s.shared k l in (
              omega (arith, was.0),
              record {
                es = days;
                best = best;
                other = was.1.0;
                there = omega (arith, was.1.1);
                apart = was.1.2;
                same = was.1.3;
                still = λ l _. refl;
                within = λ l h. (l, h, refl);
              },
            );
        company = λ k l a b ne e. s.company k l (omega arith) (omega arith) ne e;
        done = λ k l. inl l;
        waits = λ k l. l;
      }

  -- only lots that were spare, or are so now, are moved
  spare_kept : (spare spare' : List Bool) → ((k : ℕ) → Set spare k → Set spare' k) → (k : ℕ) → Spare ws days spare k → Spare ws days spare' k
  spare_kept spare spare' kept k s = record {
    es = s.es;
    best = s.best;
    other = s.other;
    there = s.there;
    apart = s.apart;
    same = s.same;
    still = λ l b. s.still l (bound l b (get_or spare l false) refl);
    within = s.within;
  }
    where
      bound : (l : ℕ) → Unset spare' l → (b : Bool) → get_or spare l false ≡ b → Unset spare l
      bound l u true e = absurd (both_ways (get_or spare' l false) u (kept l e))
      bound l u false e = e

  module _ (mated : (day k : ℕ) → Mate mates day k → (k < length ws) × (get_or days k 0 ≡ day)) (matched : (k : ℕ) → k < length ws → (l : ℕ) × Mate mates (get_or days k 0) l)
      (spare pending : List Bool) (p : Sparing ws days mates spare pending) (lot : ℕ) (at : Set pending lot) where
    own : Spare ws days spare lot
    own = (p.shown lot (p.waits lot at)).1

    there : lot < length ws
    there = (p.shown lot (p.waits lot at)).0

    long : length own.es ≡ length ws
    long = choice_length ws own.es own.best.choice

    -- no day of its window is free: the lot would win it
    held : (day : ℕ) → In (window_at ws lot) day → (o : Option ℕ) → get_or mates day None ≡ o → (l : ℕ) × Mate mates day l
    held day i (Some l) e = (l, e)
    held day i None e =
        let free : (m : ℕ) → m < length own.es → get_or own.es m 0 ≡ day → ⊥ = λ m b q.
        let w = own.within m (omega (arith, long)) in
        let h = matched w.0 w.1 in
        none_some h.0 (sym e ∙ subst (λ x. Mate mates x h.0) (sym w.2 ∙ q) h.1) in
        let more = moved_gains own.es lot day (omega (arith, long, there)) own.other (omega (arith, long, own.there)) own.apart own.same free in
        absurd (omega (arith, more, own.best.most (set own.es lot day) (choice_set ws own.es lot day own.best.choice (λ _. i))))

    module _ (spare' pending' : List Bool) (s : Spread (window_at ws lot).low ((window_at ws lot).high + 1) mates spare (set pending lot false) spare' pending') where
      -- it goes to the day of another lot, which then has company
      spare_next : (k day : ℕ) → In (window_at ws lot) day → Mate mates day k → Unset spare k → Spare ws days spare' k
      spare_next k day i has bound =
          let k_is = mated day k has in
          let apart : lot ≢ k = λ e. both_ways (get_or spare k false) bound (subst (Set spare) e (p.waits lot at)) in
          let room : lot < length own.es = omega (arith, long, there) in
          let es = set own.es lot day in
          let stays : (l : ℕ) → l ≢ lot → get_or es l 0 ≡ get_or own.es l 0 = λ l ne. get_or-set_other own.es lot l day 0 ne in
          let here : get_or es lot 0 ≡ day = get_or-set_same own.es lot day 0 room in
          spare_kept spare spare' s.kept k (record {
            es = es;
            best = best_moved ws own.es lot day own.best i (moved_shared own.es lot day room own.other (omega (arith, long, own.there)) own.apart own.same);
            other = lot;
            there = there;
            apart = apart;
            same = here ∙ sym (stays k (λ e. apart (sym e)) ∙ own.still k bound ∙ k_is.1);
            still = λ l b. stays l (λ e. both_ways (get_or spare l false) b (subst (Set spare) (sym e) (p.waits lot at))) ∙ own.still l b;
            within = λ l b. elim (cases_eq l lot) [
              | inl e ↦ (k, k_is.0, ap (λ x. get_or es x 0) e ∙ here ∙ sym k_is.1)
              | inr ne ↦ let w = own.within l b in (w.0, w.1, stays l ne ∙ w.2)
            ];
          })

      spare_more : (k day : ℕ) → In (window_at ws lot) day → Mate mates day k → (b : Bool) → get_or spare k false ≡ b → Spare ws days spare' k
      spare_more k day i has true e = spare_kept spare spare' s.kept k (p.shown k e).1
      spare_more k day i has false e = spare_next k day i has e

      passed : (k : ℕ) → k ≡ lot → (day : ℕ) → In (window_at ws k) day → (l : ℕ) × Mate mates day l × Set spare' l
      passed k e day i =
          let i' = subst (λ x. In (window_at ws x) day) e i in
          let h = held day i' (get_or mates day None) refl in
          (h.0, h.1, s.all day h.0 i'.0 (omega (arith, i'.1)) h.1)

      pub sparing_more : Sparing ws days mates spare' pending'
      sparing_more = record {
        shown = λ k l. elim (s.only k l) [
          | inl o ↦ ((p.shown k o).0, spare_kept spare spare' s.kept k (p.shown k o).1)
          | inr d ↦ ((mated d.0 k d.3).0, spare_more k d.0 (d.1, omega (arith, d.2)) d.3 (get_or spare k false) refl)
        ];
        company = λ k l a b ne e. s.kept k (p.company k l a b ne e);
        done = λ k l. elim (s.new k l) [
          | inr w ↦ inl w
          | inl o ↦ elim (cases_eq k lot) [
            | inl e ↦ inr (passed k e)
            | inr ne ↦ elim (p.done k o) [
              | inl w ↦ inl (s.waits k (get_or-set_other pending lot k false false ne ∙ w))
              | inr f ↦ inr (λ day i. let h = f day i in (h.0, h.1, s.kept h.0 h.2))
            ]
          ]
        ];
        waits = λ k w. elim (s.news k w) [ inl o ↦ s.kept k (p.waits k (clear_was pending lot k o)) | inr n ↦ n.1 ];
      }

  -- where none is pending all spare lots are found
  pub sparing_ends : ((day k : ℕ) → Mate mates day k → (k < length ws) × (get_or days k 0 ≡ day)) → (spare pending : List Bool) → Sparing ws days mates spare pending
      → ((k : ℕ) → Set pending k → ⊥) → Spared ws days spare
  sparing_ends mated spare pending p none = record {
    any = λ k b l day i.
        let s = (p.shown k l).1 in
        let long = choice_length ws s.es s.best.choice in
        let room : k < length s.es = omega arith in
        (set s.es k day, best_moved ws s.es k day s.best i (moved_shared s.es k day room s.other (omega (arith, s.there)) s.apart s.same), get_or-set_same s.es k day 0 room);
    company = p.company;
    closed = λ k b l day i. elim (p.done k l) [
      | inl w ↦ absurd (none k w)
      | inr f ↦ let h = f day i in let is = mated day h.0 h.1 in (h.0, is.0, h.2, is.1)
    ];
  }
