-- What a file gives is determined: it holds one sheet, that has one earliest plan, and one refusal is met first.
use Rattle.std.proofs.Common.{◌≡◌, ℕ, ◌<◌, ◌≤◌, ◌⊎◌, List, [], ◌∷◌, length, get_or, take, sym, refl, ap, ◌∙◌, subst, inl, inr, arith}
use Rattle.std.proofs.ByRecursion.{All-get_or}
use Rattle.std.proofs.lemmas.Bool.{cases_lt}
use Rattle.std.proofs.lemmas.List.{get_or-take}
use Rattle.store.specs.declared.window.Window.{Window}
use Rattle.store.specs.Checks.{Passes, Refused, here, later}
use Rattle.store.specs.Sound.{FirstFaulty, Sound}
use Rattle.store.specs.Windows.{window}
use Rattle.store.proofs.Checks.{passes_refused}
use Rattle.rules.specs.declared.row.Row.{Row}
use Rattle.rules.specs.Plans.{Earlier, Earliest}
use Rattle.rules.specs.Sheets.{Sheet}
use Rattle.sheet.specs.declared.fault.SheetFault.{SheetFault}
use Rattle.sheet.specs.declared.fault.SheetFault.TheVariants.{FaultyWindow, NoPlan, ShortAnswer}
use Rattle.sheet.specs.Drafts.{rules_checks}
use Rattle.sheet.proofs.Drafts.{fit_passes}
use Rattle.file.specs.declared.fault.FileFault.{FileFault}
use Rattle.file.specs.declared.fault.FileFault.TheVariants.{Sheet as Of}
use Rattle.file.specs.Faults.{number_of, place_of}
use Rattle.file.specs.Format.{Holds}
use Rattle.file.proofs.Sheets.{holds_agrees, holds_ends, length_file, one_sheet}
use Rattle.listing.specs.Text.{list_of, refusal_line}
use Rattle.reply.specs.declared.reply.Replied.TheVariants.{Plan, Refusal}
use Rattle.reply.specs.Replies.{OneText, plan, refusal}
use Rattle.reply.specs.Files.{Accepted, Refuses, file_checks, fit_checks, last_checks, unread, unfit, unplanned}

-- days before the first different one are the same
same_day : (n m : ℕ) (xs ys : List ℕ) → n < m → take m xs ≡ take m ys → get_or xs n 0 ≡ get_or ys n 0
same_day n m xs ys h e = sym (get_or-take m xs n 0 h) ∙ ap (λ zs. get_or zs n 0) e ∙ get_or-take m ys n 0 h

-- one list is earlier than another only one way round
not_both : (xs ys : List ℕ) → Earlier xs ys → Earlier ys xs → ⊥
not_both xs ys a b =
    elim (cases_lt a.lot b.lot) [
      | inl h ↦ omega (arith, a.smaller, same_day a.lot b.lot ys xs h b.same)
      | inr h ↦ elim (cases_lt b.lot a.lot) [
        | inl k ↦ omega (arith, b.smaller, same_day b.lot a.lot xs ys k a.same)
        | inr k ↦
            let same : a.lot ≡ b.lot = omega arith in
            let mine = subst (λ n. get_or xs n 0 < get_or ys n 0) same a.smaller in
            omega (arith, b.smaller, mine)
      ]
    ]

-- a sheet has just one earliest plan
one_earliest : (s : Sheet) (xs ys : List ℕ) → Earliest s xs → Earliest s ys → xs ≡ ys
one_earliest s xs ys a b =
    elim (a.first ys b.plan) [
      | inl e ↦ sym e
      | inr e ↦ elim (b.first xs a.plan) [ inl f ↦ f | inr f ↦ absurd (not_both xs ys e f) ]
    ]

-- each check refuses in one way only
abbrev Singles : {E : Type 0} → List (E → Type 0) → Type 0
Singles [] = Unit {0}
Singles {E} (c ∷ cs) = ((e f : E) → c e → c f → e ≡ f) × Singles cs

one_refused : {E : Type 0} (checks : List (E → Type 0)) → Singles checks → (e f : E) → Refused checks e → Refused checks f → e ≡ f
one_refused [] s e f r q = absurd r
one_refused (c ∷ cs) s e f (here a) (here b) = s.0 e f a b
one_refused (c ∷ cs) s e f (here a) (later n _) = absurd (n e a)
one_refused (c ∷ cs) s e f (later n _) (here b) = absurd (n f b)
one_refused (c ∷ cs) s e f (later _ r) (later _ q) = one_refused cs s.1 e f r q

one_faulty : (ws : List Window) (p q : ℕ) → FirstFaulty ws p → FirstFaulty ws q → p ≡ q
one_faulty ws p q a b =
    elim (cases_lt p q) [
      | inl h ↦ absurd (a.faulty (b.first p h))
      | inr h ↦ elim (cases_lt q p) [ inl k ↦ absurd (b.faulty (a.first q k)) | inr k ↦ omega arith ]
    ]

file_singles : (file : List ℕ) → Singles (file_checks file)
file_singles file = (λ e f a b. a.1 ∙ sym b.1, (λ e f a b. a.1 ∙ sym b.1, (λ e f a b. a.1 ∙ sym b.1, tt)))

rules_singles : (lots : ℕ) (rows : List Row) → Singles (rules_checks lots rows)
rules_singles lots [] = tt
rules_singles lots (q ∷ rows) = (λ e f a b. a.1 ∙ sym b.1, (λ e f a b. a.1 ∙ sym b.1, rules_singles lots rows))

fit_singles : (s : Sheet) → Singles (fit_checks s)
fit_singles s = (
  λ e f a b. a.2 ∙ ap FaultyWindow (one_faulty s.windows a.0 b.0 a.1 b.1) ∙ sym b.2,
  rules_singles (length s.windows) s.rules,
)

-- a file that holds a sheet passes the first checks, and one that is accepted passes those of its sheet
holds_read : (file : List ℕ) (s : Sheet) → Holds file s → Passes (file_checks file)
holds_read file s h = (
  λ e n. omega (arith, n.0, ap length h.is, length_file s, h.few_lots, h.few_rules),
  (λ e n. n.0 (holds_ends file s h), (λ e n. n.0 (holds_agrees file s h), tt)),
)

pub accepted_fit : (file : List ℕ) (s : Sheet) → Accepted file s → Passes (fit_checks s)
accepted_fit file s a =
    (λ e n. n.1.faulty (All-get_or Sound s.windows n.0 (window 0 0) n.1.there a.sound), fit_passes (length s.windows) s.rules a.fit)

module _ (file : List ℕ) (room : ℕ) (f : FileFault) where
  same_sheet : (s t : Sheet) → Holds file s → Holds file t → s ≡ t
  same_sheet s t h k = one_sheet s t (sym h.is ∙ k.is)

  -- nothing else is met before a refusal of the bytes, or of the sheet
  unread_only : (e : FileFault) → Refused (file_checks file) e → Refuses file room f → e ≡ f
  unread_only e r (unread q) = one_refused (file_checks file) (file_singles file) e f r q
  unread_only e r (unfit t _ h _ _) = absurd (passes_refused (file_checks file) e (holds_read file t h) r)
  unread_only e r (unplanned t _ a _ _) = absurd (passes_refused (file_checks file) e (holds_read file t a.holds) r)

  unfit_only : (s : Sheet) (why : SheetFault) → Holds file s → Refused (fit_checks s) why → Refuses file room f → Of why ≡ f
  unfit_only s why h r (unread q) = absurd (passes_refused (file_checks file) f (holds_read file s h) q)
  unfit_only s why h r (unfit t other k q is) =
      let mine = subst (λ x. Refused (fit_checks x) other) (same_sheet t s k h) q in
      ap Of (one_refused (fit_checks s) (fit_singles s) why other r mine) ∙ sym is
  unfit_only s why h r (unplanned t _ a _ _) =
      let mine = subst (λ x. Refused (fit_checks x) why) (same_sheet s t h a.holds) r in
      absurd (passes_refused (fit_checks t) why (accepted_fit file t a) mine)

  -- where a sheet is accepted only the last checks refuse
  last_only : (s : Sheet) → Accepted file s → Refuses file room f
      → (why : SheetFault) × Refused (last_checks s room) why × (f ≡ Of why)
  last_only s a (unread q) = absurd (passes_refused (file_checks file) f (holds_read file s a.holds) q)
  last_only s a (unfit t why h q _) =
      let mine = subst (λ x. Refused (fit_checks x) why) (same_sheet t s h a.holds) q in
      absurd (passes_refused (fit_checks s) why (accepted_fit file s a) mine)
  last_only s a (unplanned t why b q is) = (why, subst (λ x. Refused (last_checks x room) why) (same_sheet t s b.holds a.holds) q, is)

module _ (file : List ℕ) (s : Sheet) (a : Accepted file s) (room : ℕ) where
  -- a file that has a plan is not refused where there is room
  pub planned_or_refused : (ds : List ℕ) (f : FileFault) → Earliest s ds → length s.windows ≤ room → Refuses file room f → ⊥
  planned_or_refused ds f first enough r = none (last_only file room f s a r).0 (last_only file room f s a r).1
    where
      none : (why : SheetFault) → Refused (last_checks s room) why → ⊥
      none why (here few) = omega (arith, few.0)
      none why (later _ (here n)) = n.0 ds first.plan
      none why (later _ (later _ n)) = n

  -- where there is not, it is refused for that
  pub short_refused : (f : FileFault) → room < length s.windows → Refuses file room f → f ≡ Of ShortAnswer
  short_refused f few r = (last_only file room f s a r).2 ∙ ap Of (short (last_only file room f s a r).0 (last_only file room f s a r).1)
    where
      short : (why : SheetFault) → Refused (last_checks s room) why → why ≡ ShortAnswer
      short why (here w) = w.1
      short why (later n _) = absurd (n ShortAnswer (few, refl))

-- a refusal for want of room
pub record Short (file : List ℕ) (room : ℕ) (e : FileFault) : Type 0 where
  pub s : Sheet
  pub accepted : Accepted file s
  pub few : room < length s.windows
  pub told : e ≡ Of ShortAnswer

-- one refusal is met first, whatever the room, but where it is the room that is short
pub one_refusal : (file : List ℕ) (room : ℕ) (e f : FileFault) → Refuses file room e → Refuses file 256 f → (e ≡ f) ⊎ Short file room e
one_refusal file room e f (unread r) q = inl (unread_only file 256 f e r q)
one_refusal file room e f (unfit s why h r is) q = inl (is ∙ unfit_only file 256 f s why h r q)
one_refusal file room e f (unplanned s why a r is) q = which r
  where
    no_plan : (other : SheetFault) → Refused (last_checks s 256) other → other ≡ NoPlan
    no_plan other (here few) = absurd (omega (arith, few.0, a.holds.few_lots))
    no_plan other (later _ (here none)) = none.1
    no_plan other (later _ (later _ n)) = absurd n

    which : Refused (last_checks s room) why → (e ≡ f) ⊎ Short file room e
    which (here few) = inr (record { s = s; accepted = a; few = few.0; told = is ∙ ap Of few.1 })
    which (later _ (here none)) = let (other, r', told) = last_only file 256 f s a q in inl (is ∙ ap Of (none.1 ∙ sym (no_plan other r')) ∙ sym told)
    which (later _ (later _ n)) = absurd n

-- a file has just one plan
pub one_plan : (file : List ℕ) (s t : Sheet) (xs ys : List ℕ) → Accepted file s → Accepted file t → Earliest s xs → Earliest t ys → xs ≡ ys
one_plan file s t xs ys a b first other =
    one_earliest s xs ys first (subst (λ x. Earliest x ys) (one_sheet t s (sym b.holds.is ∙ a.holds.is)) other)

-- a file has just one text
pub one_text : (file : List ℕ) → OneText file
one_text file text other told told' (plan s xs a first l t) (plan v ys b second m u) =
    let texts : text ≡ other = l ∙ ap list_of (one_plan file s v xs ys a b first second) ∙ sym m in
    (texts, t ∙ ap (λ x. Plan (length x)) texts ∙ sym u)
one_text file text other told told' (plan s xs a first _ _) (refusal e r _ _) =
    absurd (planned_or_refused file s a 256 xs e first a.holds.few_lots r)
one_text file text other told told' (refusal e r _ _) (plan s xs a first _ _) =
    absurd (planned_or_refused file s a 256 xs e first a.holds.few_lots r)
one_text file text other told told' (refusal e r l t) (refusal f q m u) =
    elim (one_refusal file 256 e f r q) [
      | inl same ↦
          let texts : text ≡ other = l ∙ ap (λ x. refusal_line (number_of x) (place_of x)) same ∙ sym m in
          (texts, t ∙ ap (λ x. Refusal (length x)) texts ∙ sym u)
      | inr s ↦ absurd (omega (arith, s.few, s.accepted.holds.few_lots))
    ]
