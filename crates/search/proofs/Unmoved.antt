-- What stays firm where the window of one lot changes: the rules that are not over the lot.
use Rattle.std.proofs.Common.{◌≡◌, ℕ, zero, suc, ◌+◌, ◌<◌, ◌≤◌, false, List, [], ◌∷◌, length, take, set, sym, refl, ap, subst, inl, inr, arith}
use Rattle.std.specs.List.{AllByRecursion}
use Rattle.std.proofs.ByRecursion.{All-get_or}
use Rattle.std.proofs.lemmas.List.{take-set-le, drop-set-lt}
use Rattle.std.proofs.lemmas.Bool.{cases_lt}
use Rattle.store.specs.declared.window.Window.{Window}
use Rattle.nvalue.specs.Choices.{part}
use Rattle.nvalue.specs.Stretches.{Over}
use Rattle.rules.specs.Firm.{FirmRule}
use Rattle.rules.specs.Sheets.{Sheet, row, rule_at}
use Rattle.rules.proofs.Firm.{firm_rule_under}
use Rattle.propagation.specs.declared.queue.Queue.{Queue}
use Rattle.propagation.specs.Changes.{with_window}
use Rattle.propagation.specs.Queues.{RestFirm, waits}

-- a stretch does not see a lot before it or after it
part_set_after : {X : Type 0} (xs : List X) (a n i : ℕ) (x : X) → a + n ≤ i → part (set xs i x) a n ≡ part xs a n
part_set_after [] a n i x h = refl
part_set_after (y ∷ ys) zero n i x h = take-set-le n (y ∷ ys) i x (omega arith)
part_set_after (y ∷ ys) (suc a) n zero x h = absurd (omega arith)
part_set_after (y ∷ ys) (suc a) n (suc i) x h = part_set_after ys a n i x (omega arith)

part_set_other : {X : Type 0} (xs : List X) (a n i : ℕ) (x : X) → (a ≤ i → i < a + n → ⊥) → part (set xs i x) a n ≡ part xs a n
part_set_other xs a n i x h =
    elim (cases_lt i a) [
      | inl l ↦ ap (take n) (drop-set-lt a xs i x l)
      | inr l ↦ elim (cases_lt i (a + n)) [ inl m ↦ absurd (h l m) | inr m ↦ part_set_after xs a n i x m ]
    ]

-- so rules are firm that do not wait, where those over the lot do
pub firm_others : (s u : Sheet) (lot : ℕ) (w : Window) (queue : Queue) → u ≡ with_window lot w s → AllByRecursion (FirmRule s.windows) s.rules
    → ((k : ℕ) → k < length u.rules → waits queue k ≡ false → Over (rule_at u.rules k).stretch lot → ⊥) → RestFirm u queue
firm_others s u lot w queue e firm others k h silent =
    let r = rule_at u.rules k in
    let was : FirmRule s.windows r = All-get_or (FirmRule s.windows) u.rules k (row 0 0 0 0) h (subst (AllByRecursion (FirmRule s.windows)) (sym (ap (λ x. x.rules) e)) firm) in
    let same = part_set_other s.windows r.stretch.first r.stretch.length lot w (λ l m. others k h silent (l, m)) in
    subst (λ x. FirmRule x.windows r) (sym e) (firm_rule_under s.windows (set s.windows lot w) r (sym same) was)
