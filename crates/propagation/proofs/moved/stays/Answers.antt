use Rattle.std.proofs.Common.{◌≡◌, ℕ, ◌+◌, ◌-◌, ◌<◌, ◌≤◌, List, length, take, drop, sym, ap, ◌∙◌, inl, inr, arith}
use Rattle.std.proofs.lemmas.Bool.{cases_lt}
use Rattle.std.proofs.lemmas.List.{ext_get_or, get_or-drop, get_or-take}
use Rattle.store.specs.declared.window.Window.{Window}
use Rattle.store.specs.Windows.{window, window_at}
use Rattle.nvalue.specs.Choices.{part}
use Rattle.nvalue.proofs.Stretches.{part_at, part_length}
use Rattle.propagation.specs.Changes.{written}
use Rattle.propagation.proofs.Writing.{written_inside, written_length, written_outside}
use Rattle.propagation.proofs.moved.stays.Goals as goal

-- windows stay the same on a stretch where those that are written there are the same
module _ (ws us : List Window) (f a n : ℕ) (room : f + length us ≤ length ws) (there : a + n ≤ length ws) where
  stay : ((i : ℕ) → a ≤ i → i < a + n → f ≤ i → i < f + length us → window_at ws i ≡ window_at us (i - f)) → part ws a n ≡ part (written f us ws) a n
  stay same =
      let is = written f us ws in
      let long = written_length ws us f room in
      let read : (vs : List Window) (j : ℕ) → j < n → window_at (part vs a n) j ≡ window_at vs (a + j) =
      λ vs j h. get_or-take n (drop a vs) j (window 0 0) h ∙ get_or-drop a vs j (window 0 0) in
      let at : (i : ℕ) → a ≤ i → i < a + n → window_at ws i ≡ window_at is i =
      λ i l h. elim (cases_lt i f) [
        | inl b ↦ sym (written_outside ws us f room i (inl b))
        | inr b ↦ elim (cases_lt i (f + length us)) [
          | inl d ↦ same i l h b d ∙ sym (written_inside ws us f room i b d)
          | inr d ↦ sym (written_outside ws us f room i (inr d))
        ]
      ] in
      let many = part_length ws a n there in
      ext_get_or (window 0 0) (part ws a n) (part is a n) (many ∙ sym (part_length is a n (omega arith))) (λ j h.
      let b : j < n = omega arith in
      read ws j b ∙ at (a + j) (omega arith) (omega arith) ∙ sym (read is j b))

  -- those of the lots that both have
  stay_both : (from to : ℕ) → f ≤ from → ((i : ℕ) → a ≤ i → i < a + n → f ≤ i → i < f + length us → (from ≤ i) × (i < to))
      → take (to - from) (drop from ws) ≡ take ((to - f) - (from - f)) (drop (from - f) us) → part ws a n ≡ part (written f us ws) a n
  stay_both from to l both e =
      stay (λ i h m k d.
      let b = both i h m k d in
      let j : i - f - (from - f) ≡ i - from = omega arith in
      sym (part_at ws from (to - from) i (window 0 0) b.0 (omega (arith, b.0, b.1)))
      ∙ ap (λ vs. window_at vs (i - from)) e ∙ ap (window_at (part us (from - f) ((to - f) - (from - f)))) (sym j)
      ∙ part_at us (from - f) ((to - f) - (from - f)) (i - f) (window 0 0) (omega (arith, b.0)) (omega (arith, b.0, b.1)))

pub returns-then-to-from : goal.returns-then-to-from
returns-then-to-from c = λ yes.
    let s = c.args.stretch in
    stay c.args.windows.now c.args.new.now c.args.first s.first s.length c.requires.within c.requires.there (λ i h m k d. absurd (omega (arith, c.max-from.ensures, c.min-to.ensures)))

pub returns-else-to-from : goal.returns-else-to-from
returns-else-to-from c = λ yes.
    let s = c.args.stretch in
    stay_both c.args.windows.now c.args.new.now c.args.first s.first s.length c.requires.within c.requires.there c.max-from.result c.min-to.result (omega (arith, c.max-from.ensures))
    (λ i h m k d. (omega (arith, c.max-from.ensures), omega (arith, c.min-to.ensures))) (c.same.ensures.0 yes)
