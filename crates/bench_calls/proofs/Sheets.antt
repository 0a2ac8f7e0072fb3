-- Rules read from words one by one, cut off where no book holds more, and what planning them gives.
use Rattle.std.proofs.Common.{◌≡◌, ℕ, ◌+◌, ◌*◌, ◌/◌, ◌<◌, ◌≤◌, min, List, [], ◌∷◌, ◌++◌, length, get_or, take, drop, set, Ok, Err, Result, sym, refl, ap, ◌∙◌, subst, inl, inr, arith}
use Rattle.std.proofs.lemmas.Bool.{cases_lt}
use Rattle.std.proofs.lemmas.List.{append_assoc, append-nil, length-append, take_more_set}
use Rattle.store.specs.declared.window.Window.{Window}
use Rattle.rules.specs.declared.row.Row.{Row}
use Rattle.rules.specs.Plans.{Earliest}
use Rattle.sheet.specs.declared.book.Book.{Book}
use Rattle.sheet.specs.declared.fault.SheetFault.{SheetFault}
use Rattle.sheet.specs.declared.slip.Closed.{Closed}
use Rattle.sheet.specs.declared.slip.Draft.{Draft}
use Rattle.rules.specs.Sheets.{row, sheet}
use Rattle.sheet.specs.declared.fault.SheetFault.TheVariants.{ShortAnswer}
use Rattle.sheet.specs.Books.{rules_of}
use Rattle.sheet.specs.Drafts as drafts
use Rattle.sheet.specs.Drafts.{AddsAll, Opens}
use Rattle.sheet.specs.Faults.{number_of}
use Rattle.sheet.proofs.Books.{rules_length}
use Rattle.sheet.proofs.Drafts.{each_rules}
use Rattle.plan.specs.Planned.{Planned}
use Rattle.bench_calls.specs.Planned.{PlansWords, rules_in, not_planned, planned}

-- the rule in the first four words, and the rest
rules_next : (words : List ℕ) → 4 ≤ length words → rules_in words ≡ row (get_or words 0 0) (get_or words 1 0) (get_or words 2 0) (get_or words 3 0) ∷ rules_in (drop 4 words)
rules_next [] h = absurd (omega arith)
rules_next (a ∷ []) h = absurd (omega arith)
rules_next (a ∷ b ∷ []) h = absurd (omega arith)
rules_next (a ∷ b ∷ c ∷ []) h = absurd (omega arith)
rules_next (a ∷ b ∷ c ∷ d ∷ rest) h = refl

-- fewer than four words are no rule
pub no_rules : (words : List ℕ) → length words < 4 → rules_in words ≡ []
no_rules [] h = refl
no_rules (a ∷ []) h = refl
no_rules (a ∷ b ∷ []) h = refl
no_rules (a ∷ b ∷ c ∷ []) h = refl
no_rules (a ∷ b ∷ c ∷ d ∷ rest) h = absurd (omega arith)

-- one more rule read
pub read_more : (words rest others : List ℕ) (rows : List Row) (i : ℕ) → i < length rows → 4 ≤ length rest → others ≡ drop 4 rest → rules_in words ≡ take i rows ++ rules_in rest
    → rules_in words ≡ take (i + 1) (set rows i (row (get_or rest 0 0) (get_or rest 1 0) (get_or rest 2 0) (get_or rest 3 0))) ++ rules_in others
read_more words rest others rows i h four o before =
    let q = row (get_or rest 0 0) (get_or rest 1 0) (get_or rest 2 0) (get_or rest 3 0) in
    before
    ∙ ap (λ qs. take i rows ++ qs) (rules_next rest four)
    ∙ ap (λ ns. take i rows ++ q ∷ rules_in ns) (sym o)
    ∙ sym (append_assoc (take i rows) (q ∷ []) (rules_in others))
    ∙ ap (λ qs. qs ++ rules_in others) (sym (take_more_set rows i q h))

-- no book holds more than 32 rules: so what is refused among the first is refused of all
adds_front : (front back : List Row) (slip : Draft) (was : Book) (s : Result (Unit {0}) SheetFault) (slip' : Draft) (is : Book)
    → 32 < length front → AddsAll front slip was s slip' is → AddsAll (front ++ back) slip was s slip' is
adds_front front back slip was s slip' is many (drafts.AddsAll.refused why f r m w) =
    drafts.AddsAll.refused why (record { before = f.before; q = f.q; after = f.after ++ back; split = ap (λ xs. xs ++ back) f.split ∙ append_assoc f.before (f.q ∷ f.after) back; mid = f.mid; book = f.book; added = f.added; refused = f.refused }) r m w
adds_front front back slip was s slip' is many (drafts.AddsAll.all_added each r) =
    absurd (omega (arith, ap length (each_rules front slip was slip' is each), length-append (rules_of was) front, rules_length is, is.few))

opens_front : (ws : List Window) (front back : List Row) (was : Book) (r : Result Closed SheetFault) (is : Book) → 32 < length front → Opens ws front was r is → Opens ws (front ++ back) was r is
opens_front ws front back was r is many (drafts.Opens.not_started e s o) = drafts.Opens.not_started e s o
opens_front ws front back was r is many (drafts.Opens.not_added e draft draft' begun left s a o w) =
    drafts.Opens.not_added e draft draft' begun left s (adds_front front back draft begun (Err e) draft' left many a) o w
opens_front ws front back was r is many (drafts.Opens.opened draft draft' begun s a o) =
    drafts.Opens.opened draft draft' begun s (adds_front front back draft begun (Ok tt) draft' is many a) o

-- the rules that were read are all, or more than a book holds
pub opens_all : (ws : List Window) (words rest : List ℕ) (rows : List Row) (was : Book) (r : Result Closed SheetFault) (is : Book) → length rows ≡ min (length words / 4) 33
    → rules_in words ≡ rows ++ rules_in rest → length rest + 4 * length rows ≡ length words → Opens ws rows was r is → Opens ws (rules_in words) was r is
opens_all ws words rest rows was r is count split left o =
    elim (cases_lt (length rest) 4) [
      | inl h ↦ subst (λ qs. Opens ws qs was r is) (sym (split ∙ ap (λ qs. rows ++ qs) (no_rules rest h) ∙ append-nil rows)) o
      | inr h ↦ subst (λ qs. Opens ws qs was r is) (sym split) (opens_front ws rows (rules_in rest) was r is (omega arith) o)
    ]

-- a sheet that was opened has just these rules
opened_rules : (ws : List Window) (rows : List Row) (fresh : Book) (slip : Closed) (book : Book) → Opens ws rows fresh (Ok slip) book → rules_of book ≡ rows
opened_rules ws rows fresh slip book (drafts.Opens.not_started _ _ o) = cc
opened_rules ws rows fresh slip book (drafts.Opens.not_added _ _ _ _ _ _ _ o _) = cc
opened_rules ws rows fresh slip book (drafts.Opens.opened _ _ _ _ (drafts.AddsAll.refused _ _ o _ _) _) = cc
opened_rules ws rows fresh slip book (drafts.Opens.opened draft draft' begun s (drafts.AddsAll.all_added each _) _) =
    each_rules rows draft begun draft' book each ∙ ap (λ qs. qs ++ rows) s.1.2

module _ (work : ℕ) (ws : List Window) (rows : List Row) (fresh book : Book) (slip : Closed) (was is : List ℕ) (o : Opens ws rows fresh (Ok slip) book) where
  pub plan_refused : (e : SheetFault) → Planned work slip.lots slip.rules ws book was (Err e) is → PlansWords work ws rows was (number_of e) is
  plan_refused e p = not_planned e fresh book slip o p refl p.1

  pub plan_made : (n : ℕ) → Planned work slip.lots slip.rules ws book was (Ok n) is → PlansWords work ws rows was 0 is
  plan_made n (passes, (ds, first, _, words)) =
      let room : length ws ≤ length was = elim (cases_lt (length was) (length ws)) [ inl h ↦ absurd (passes.1.1.1.1.0 ShortAnswer (h, refl)) | inr h ↦ h ] in
      planned fresh book slip ds o (subst (λ qs. Earliest (sheet ws qs) ds) (opened_rules ws rows fresh slip book o) first) room refl words
