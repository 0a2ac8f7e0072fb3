-- What settle, plan and the asks for a day give, once it is known what is firm and which plan is the earliest.
use Rattle.std.proofs.Common.{◌≡◌, ℕ, ◌<◌, ◌≤◌, ◌↔◌, List, [], ◌∷◌, ◌++◌, length, take, get_or, Ok, Err, Result, sym, refl, ap, ap₂, ◌∙◌, subst, inl, inr, arith}
use Rattle.std.specs.List.{AllZip, AllByRecursion}
use Rattle.std.proofs.ByRecursion.{All-get_or}
use Rattle.std.proofs.lemmas.Bool.{cases_lt}
use Rattle.std.proofs.lemmas.List.{get_or-take}
use Rattle.store.specs.Checks.{Checked, Passes, Refused, here, later, refuse}
use Rattle.store.specs.declared.half_line.HalfLine.{HalfLine}
use Rattle.store.specs.declared.half_line.HalfLine.TheVariants.{From, UpTo}
use Rattle.store.specs.declared.window.Window.{Window}
use Rattle.store.specs.Over.{over}
use Rattle.store.specs.Sound.{FirstFaulty, Sound}
use Rattle.store.specs.Windows.{end_of, window, Misses, Narrower, Trims, Within, no_such_lot, stays, would_empty, moves, trimmed}
use Rattle.store.proofs.Checks.{passes_both, passes_refused, refused_back, refused_split}
use Rattle.nvalue.specs.Nvalue.{nvalue}
use Rattle.rules.specs.declared.row.Row.{Row}
use Rattle.rules.specs.Sheets.{Sheet, sheet}
use Rattle.rules.specs.Plans.{Earlier, Earliest, NoPlan}
use Rattle.rules.specs.Firm.{GreatestFirm, NoFirm, Stricter}
use Rattle.sheet.specs.declared.book.Book.{Book}
use Rattle.sheet.specs.declared.fault.SheetFault.{SheetFault}
use Rattle.sheet.specs.declared.fault.SheetFault.TheVariants as fault
use Rattle.sheet.specs.Asks.{AllAgree, AsksDays, ask_day_checks}
use Rattle.sheet.specs.Books.{lots_of, sheet_of}
use Rattle.sheet.specs.Faults.{number_of}
use Rattle.plan.specs.Planned.{IsEarliest, plan_checks, short_answer}
use Rattle.plan.specs.Ready.{first_checks}
use Rattle.plan.specs.Settles.{Settled}
use Rattle.examples.specs.Claims.{AskGives, Lent, Moves, PlanGives, RefusedWith, SettleGives}

-- a call answers by its last check, where the others pass
module _ {E : Type 0} (first : List (E → Type 0)) (passes : Passes first) (why : E) (None : Type 0) where
  abbrev whole : List (E → Type 0)
  whole = first ++ refuse why None ∷ []

  last_refused : (e : E) → Refused whole e → None × (e ≡ why)
  last_refused e r = elim (refused_split first (refuse why None ∷ []) e r) [
    | inl q ↦ absurd (passes_refused first e passes q)
    | inr q ↦ elim q.1 [ here h ↦ h | later _ k ↦ absurd k ]
  ]

  last_passed : (others : List (E → Type 0)) → Passes (others ++ refuse why None ∷ []) → None → ⊥
  last_passed [] p n = p.0 why (n, refl)
  last_passed (c ∷ cs) p n = last_passed cs p.1 n

  module _ {V : Type 0} (Given : V → Type 0) (Stays : Type 0) where
    refuses : None → (r : Result V E) → Checked whole r Given Stays ↔ ((r ≡ Err why) × Stays)
    refuses none (Ok v) = (λ h. absurd (last_passed first h.0 none), λ h. let s = h.0 in cc)
    refuses none (Err e) =
        let last = refused_back first (refuse why None ∷ []) why passes (here (none, refl)) in (
          λ h. (ap Err (last_refused e h.0).1, h.1),
          λ h. let s = h.0 in (subst (Refused whole) (let same : why ≡ e = cc in same) last, h.1),
        )

    accepts : (None → ⊥) → (r : Result V E) → Checked whole r Given Stays ↔ ((v : V) × (r ≡ Ok v) × Given v)
    accepts not (Ok v) =
        let last = passes_both first (refuse why None ∷ []) passes ((λ e q. not q.0), tt) in (
          λ h. (v, refl, h.1),
          λ h. let s = h.1 in (last, subst Given (let same : h.0 ≡ v = cc in same) h.2),
        )
    accepts not (Err e) = (λ h. absurd (not (last_refused e h.0).0), λ h. let s = h.1 in cc)

-- the two numbers each name one refusal
number_25 : (why : SheetFault) → number_of why ≡ 25 → why ≡ fault.NoFirmWindows
number_25 why e = grind arith

number_26 : (why : SheetFault) → number_of why ≡ 26 → why ≡ fault.NoPlan
number_26 why e = grind arith

-- there is one firm sheet that is the greatest
each_alike : {X : Type 0} (R : X → X → Type 0) → ((x y : X) → R x y → R y x → x ≡ y) → (xs ys : List X)
    → AllZip R xs ys → AllZip R ys xs → xs ≡ ys
each_alike R same [] [] a b = refl
each_alike R same [] (y ∷ ys) a b = absurd a
each_alike R same (x ∷ xs) [] a b = absurd a
each_alike R same (x ∷ xs) (y ∷ ys) a b =
    ap₂ (λ z zs. z ∷ zs) (same x y a.0 b.0) (each_alike R same xs ys a.1 b.1)

alike_windows : (v w : Window) → Narrower v w → Narrower w v → v ≡ w
alike_windows v w a b = grind arith

alike_rules : (q r : Row) → Stricter q r → Stricter r q → q ≡ r
alike_rules q r a b = let e = a.stretch in grind arith

one_greatest : (s t u : Sheet) → GreatestFirm s t → GreatestFirm s u → t ≡ u
one_greatest s t u a b =
    let i = b.greatest t a.firm a.inside in
    let j = a.greatest u b.firm b.inside in
    ap₂ sheet (each_alike Narrower alike_windows t.windows u.windows i.windows j.windows)
    (each_alike Stricter alike_rules t.rules u.rules i.counts j.counts)

-- what settle and plan check first
first_passes : (work lots rules : ℕ) (book : Book) (s : Sheet) → Lent work lots rules book s → length s.windows ≤ 256
    → AllByRecursion Sound s.windows → Passes (first_checks work lots rules s.windows book)
first_passes work lots rules book s l few sound = (
  λ e h. let short = h.0 in omega (arith, l.enough, short),
  (λ e h. let many = h.0 in omega (arith, few, many), (λ e h. h.0 l.agree, (λ e h. no_faulty h.0 h.1, tt))),
)
  where
    no_faulty : (p : ℕ) → FirstFaulty s.windows p → ⊥
    no_faulty p f = f.faulty (All-get_or Sound s.windows p (window 0 0) f.there sound)

-- days before the first different one are the same
same_day : (n m : ℕ) (xs ys : List ℕ) → n < m → take m xs ≡ take m ys → get_or xs n 0 ≡ get_or ys n 0
same_day n m xs ys h e = sym (get_or-take m xs n 0 h) ∙ ap (λ zs. get_or zs n 0) e ∙ get_or-take m ys n 0 h

-- one list is earlier than another only one way round
not_both : (xs ys : List ℕ) → Earlier xs ys → Earlier ys xs → ⊥
not_both xs ys a b =
    elim (cases_lt a.lot b.lot) [
      | inl h ↦ omega (arith, a.smaller, same_day a.lot b.lot ys xs h b.same)
      | inr h ↦ elim (cases_lt b.lot a.lot) [
        | inl k ↦ omega (arith, b.smaller, same_day b.lot a.lot xs ys k a.same)
        | inr k ↦
            let same : a.lot ≡ b.lot = omega arith in
            omega (arith, b.smaller, subst (λ n. get_or xs n 0 < get_or ys n 0) same a.smaller)
      ]
    ]

-- a sheet has just one earliest plan
one_earliest : (s : Sheet) (xs ys : List ℕ) → Earliest s xs → Earliest s ys → xs ≡ ys
one_earliest s xs ys a b =
    elim (a.first ys b.plan) [
      | inl e ↦ sym e
      | inr e ↦ elim (b.first xs a.plan) [ inl f ↦ f | inr f ↦ absurd (not_both xs ys e f) ]
    ]

-- a sheet of at most 256 lots with sound windows
module _ (s : Sheet) (few : length s.windows ≤ 256) (sound : AllByRecursion Sound s.windows) where
  pub settle_refuses : NoFirm s → SettleGives s (λ was r is now'. RefusedWith 25 r × (is ≡ s.windows) × (now' ≡ was))
  settle_refuses none work lots rules was r is now' l =
      let checks = first_checks work lots rules s.windows was in
      let passes = first_passes work lots rules was s l few sound in
      let from = sheet_of s.windows was in
      let none' = subst NoFirm (ap (sheet s.windows) (sym l.same)) none in
      let i = refuses checks passes fault.NoFirmWindows (NoFirm from) (λ _. Settled s.windows was is now')
      ((is ≡ s.windows) × (now' ≡ was)) none' r in (
        λ h. let a = i.0 h in ((fault.NoFirmWindows, a.0, refl), a.1.0, a.1.1),
        λ h. i.1 (h.0.1 ∙ ap Err (number_25 h.0.0 h.0.2), (h.1, h.2)),
      )

  pub settle_accepts : (t : Sheet) → GreatestFirm s t
      → SettleGives s (λ was r is now'. (r ≡ Ok tt) × (lots_of now' ≡ lots_of was) × (sheet_of is now' ≡ t))
  settle_accepts t g work lots rules was r is now' l =
      let checks = first_checks work lots rules s.windows was in
      let passes = first_passes work lots rules was s l few sound in
      let from = sheet_of s.windows was in
      let g' = subst (λ u. GreatestFirm u t) (ap (sheet s.windows) (sym l.same)) g in
      let i = accepts checks passes fault.NoFirmWindows (NoFirm from) (λ _. Settled s.windows was is now')
      ((is ≡ s.windows) × (now' ≡ was)) (λ n. n t g'.firm g'.inside) r in (
        λ h. let a = i.0 h in (a.1, a.2.0, one_greatest from (sheet_of is now') t a.2.1 g'),
        λ h. i.1 (tt, h.0, (h.1, subst (GreatestFirm from) (sym h.2) g')),
      )

  plan_passes : (work lots rules : ℕ) (book : Book) (was : List ℕ) → Lent work lots rules book s
      → length s.windows ≤ length was → Passes (plan_checks work lots rules s.windows book (length was))
  plan_passes work lots rules book was l room =
      passes_both (first_checks work lots rules s.windows book) (short_answer s.windows (length was) ∷ [])
      (first_passes work lots rules book s l few sound) ((λ e h. let short = h.0 in omega arith), tt)

  pub plan_refuses : NoPlan s → PlanGives s (λ was r is. RefusedWith 26 r × (is ≡ was))
  plan_refuses none work lots rules book was r is l room =
      let checks = plan_checks work lots rules s.windows book (length was) in
      let passes = plan_passes work lots rules book was l room in
      let none' = subst NoPlan (ap (sheet s.windows) (sym l.same)) none in
      let from = sheet_of s.windows book in
      let i = refuses checks passes fault.NoPlan (NoPlan from) (IsEarliest s.windows book was is) (is ≡ was)
      none' r in (
        λ h. let a = i.0 h in ((fault.NoPlan, a.0, refl), a.1),
        λ h. i.1 (h.0.1 ∙ ap Err (number_26 h.0.0 h.0.2), h.1),
      )

  pub plan_accepts : (days : List ℕ) → Earliest s days
      → PlanGives s (λ was r is. (r ≡ Ok (nvalue days)) × (is ≡ over days was))
  plan_accepts days g work lots rules book was r is l room =
      let checks = plan_checks work lots rules s.windows book (length was) in
      let passes = plan_passes work lots rules book was l room in
      let from = sheet_of s.windows book in
      let g' = subst (λ u. Earliest u days) (ap (sheet s.windows) (sym l.same)) g in
      let i = accepts checks passes fault.NoPlan (NoPlan from) (IsEarliest s.windows book was is) (is ≡ was)
      (λ n. n days g'.plan) r in (
        λ h. let a = i.0 h in
            let same = one_earliest from a.2.0 days a.2.1 g' in
            (a.1 ∙ ap Ok (a.2.2 ∙ ap nvalue same), a.2.3 ∙ ap (λ ds. over ds was) same),
        λ h. i.1 (nvalue days, h.0, (days, g', refl, h.1)),
      )

-- an ask that moves a window is accepted, and moves it
trimmed_so : (days : HalfLine) (w : Window) (is : List Window) → (Within days w → ⊥)
    → Trims (w ∷ []) 0 days (Ok tt) is → is ≡ trimmed days w ∷ []
trimmed_so days w is n (no_such_lot l _ _) = absurd (omega (arith, l))
trimmed_so days w is n (stays _ h _ _) = absurd (n h)
trimmed_so days w is n (would_empty _ _ _ e _) = cc
trimmed_so days w is n (moves _ _ _ _ e) = e

module _ (days : HalfLine) (w : Window) (far : end_of days ≤ 9999) where
  module _ (past : Within days w → ⊥) (meets : Misses days w → ⊥) where
    pub moves_so : Moves days w (trimmed days w)
    moves_so = moves (omega arith) past meets refl refl

    module _ (lots rules : ℕ) (book : Book) (agree : AllAgree lots rules book (w ∷ [])) where
      abbrev checks : List (SheetFault → Type 0)
      checks = ask_day_checks 0 days lots rules book (w ∷ [])

      ask_passes : Passes checks
      ask_passes = (
        λ e h. h.0 agree,
        (λ e h. let l = h.0 in omega (arith, far, l), (λ e h. let l = h.0 in omega (arith, l), (λ e h. meets h.0.1, tt))),
      )

      asks_give : (r : Result (Unit {0}) SheetFault) (is : List Window)
          → AsksDays 0 days lots rules book (w ∷ []) r is ↔ (r ≡ Ok tt) × (is ≡ trimmed days w ∷ [])
      asks_give (Ok v) is = (
        λ h. (refl, trimmed_so days w is past h.1),
        λ h. (ask_passes, subst (Trims (w ∷ []) 0 days (Ok tt)) (sym h.1) moves_so),
      )
      asks_give (Err e) is = (λ h. absurd (passes_refused checks e ask_passes h.0), λ h. let s = h.0 in cc)

pub ask_gives : (days : HalfLine) (w : Window) → end_of days ≤ 9999 → (Within days w → ⊥) → (Misses days w → ⊥)
    → AskGives days w (trimmed days w)
ask_gives (From day) w far past meets lots rules book r is agree =
    asks_give (From day) w far past meets lots rules book agree r is
ask_gives (UpTo day) w far past meets lots rules book r is agree =
    asks_give (UpTo day) w far past meets lots rules book agree r is
