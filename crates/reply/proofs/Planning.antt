-- What starting a sheet, adding its rules and planning it give together.
use Rattle.std.proofs.Common.{◌≡◌, ℕ, ◌≤◌, List, ◌++◌, length, Ok, Err, Result, sym, refl, ap, ◌∙◌, subst, inl, inr, arith}
use Rattle.std.specs.List.{AllByRecursion}
use Rattle.std.proofs.ByRecursion.{All-get_or}
use Rattle.std.proofs.lemmas.Bool.{cases_lt}
use Rattle.store.specs.Checks.{Passes, Refused, here, later}
use Rattle.store.specs.Sound.{Sound}
use Rattle.store.specs.Windows.{window}
use Rattle.store.proofs.Checks.{passes_refused, refused_split}
use Rattle.rules.specs.Plans.{Earliest}
use Rattle.rules.specs.Sheets.{Sheet, sheet}
use Rattle.sheet.specs.declared.book.Book.{Book}
use Rattle.sheet.specs.declared.fault.SheetFault.{SheetFault}
use Rattle.sheet.specs.declared.fault.SheetFault.TheVariants as fault
use Rattle.sheet.specs.declared.slip.Draft.{Draft}
use Rattle.sheet.specs.Asks.{AllAgree}
use Rattle.sheet.specs.Books.{sheet_of}
use Rattle.sheet.specs.Drafts.{AddsAll, Agree, Starts, refused, all_added, rules_checks}
use Rattle.sheet.proofs.Drafts.{each_agree, each_rules, first_refused, passes_fit}
use Rattle.file.specs.declared.fault.FileFault.{FileFault}
use Rattle.file.specs.declared.fault.FileFault.TheVariants.{TrailerDisagrees, Sheet as Of}
use Rattle.file.specs.Format.{Holds, rules_bytes}
use Rattle.file.specs.Reads.{read_checks}
use Rattle.file.specs.Rows.{AddsBytes, told}
use Rattle.file.proofs.Again.{just_these}
use Rattle.plan.specs.Planned.{Planned}
use Rattle.plan.specs.Ready.{first_checks}
use Rattle.reply.specs.Files.{Accepted, PlansFile, Refuses, last_checks, unfit, unplanned, unread}

-- a file that is not read, given words enough for every file
pub file_refused : (file : List ℕ) (room words : ℕ) (e : FileFault) → length file ≤ 1288 → 512 ≤ words
    → Refused (read_checks file words) e → Refuses file room e
file_refused file room words e short enough (here n) = unread (later (λ x l. omega (arith, l.0)) (here n))
file_refused file room words e short enough (later p (here n)) = unread (later (λ x l. omega (arith, l.0)) (later p (here n)))
file_refused file room words e short enough (later _ (later q (here few))) = absurd (q TrailerDisagrees ((λ a. omega (arith, few.0, a.2)), refl))
file_refused file room words e short enough (later _ (later _ (later _ n))) = absurd n

module _ (file : List ℕ) (s : Sheet) (was : List ℕ) (holds : Holds file s) (fresh begun : Book) where
  -- the start is refused
  pub start_refused : (e : SheetFault) → Starts s.windows fresh (Err e) begun → PlansFile file was (Err (Of e)) was
  start_refused e (here many, _) = absurd (omega (arith, many.0, holds.few_lots))
  start_refused e (later _ (here f), _) = (unfit s e holds (here f) refl, refl)
  start_refused e (later _ (later _ none), _) = absurd none

  module _ (slip slip' : Draft) (book : Book) (starts : Starts s.windows fresh (Ok slip) begun) where
    sound : AllByRecursion Sound s.windows
    sound = starts.1.3

    lots_are : slip.lots ≡ length s.windows
    lots_are = ap (λ x. x.lots) starts.1.0

    agree_first : Agree slip.lots slip.rules begun
    agree_first = (lots_are ∙ sym starts.1.1, ap (λ x. x.rules) starts.1.0 ∙ ap length (sym starts.1.2))

    -- a rule is refused
    refused_with : (e : FileFault) (t : Result (Unit {0}) SheetFault) → AddsAll s.rules slip begun t slip' book → Err e ≡ told t → PlansFile file was (Err e) was
    refused_with e (Ok done) a is = cc
    refused_with e (Err why) (all_added _ ok) is = cc
    refused_with e (Err why) (refused w f r _ _) is =
        let first = first_refused s.rules slip begun agree_first (omega (arith, ap length starts.1.2, holds.few_rules)) w f in
        let own : Refused (rules_checks (length s.windows) s.rules) why = subst (λ x. Refused (rules_checks (length s.windows) s.rules) x) (let same : w ≡ why = cc in same) (subst (λ n. Refused (rules_checks n s.rules) w) lots_are first) in
        (unfit s why holds (later (λ x n. n.1.faulty (All-get_or Sound s.windows n.0 (window 0 0) n.1.there sound)) own) (let same : e ≡ Of why = cc in same), refl)

    pub rules_refused : (e : FileFault) → AddsBytes (rules_bytes s.rules) slip begun (Err e) slip' book → PlansFile file was (Err e) was
    rules_refused e a = let made = just_these s.rules slip begun (Err e) slip' book a in refused_with e made.0 made.1 made.2

    -- the rules are accepted: the book has just them, and agrees with the slip and the store
    record Ready : Type 0 where
      accepted : Accepted file s
      sheet_is : sheet_of s.windows book ≡ s
      agree : AllAgree slip'.lots slip'.rules book s.windows

    accepted_with : (t : Result (Unit {0}) SheetFault) → AddsAll s.rules slip begun t slip' book → Ok tt ≡ told t → Ready
    accepted_with (Err why) a is = cc
    accepted_with (Ok done) (refused _ _ r _ _) is = cc
    accepted_with (Ok done) (all_added each r) is =
        let g = each_agree s.rules slip begun slip' book agree_first each in
        let fit = passes_fit (length s.windows) s.rules (subst (λ n. Passes (rules_checks n s.rules)) lots_are g.2) in
        record {
          accepted = record { holds = holds; sound = sound; fit = fit };
          sheet_is = ap (sheet s.windows) (each_rules s.rules slip begun slip' book each ∙ ap (λ xs. xs ++ s.rules) starts.1.2);
          agree = (g.0, g.1 ∙ lots_are);
        }

    module _ (added : AddsBytes (rules_bytes s.rules) slip begun (Ok tt) slip' book) (work : ℕ) (enough : 4096 ≤ work) where
      ready : Ready
      ready = let made = just_these s.rules slip begun (Ok tt) slip' book added in accepted_with made.0 made.1 made.2

      first_passes : Passes (first_checks work slip'.lots slip'.rules s.windows book)
      first_passes = (
        λ e n. omega (arith, n.0),
        (
          λ e n. omega (arith, n.0, holds.few_lots),
          (λ e n. n.0 ready.agree, (λ e n. n.1.faulty (All-get_or Sound s.windows n.0 (window 0 0) n.1.there sound), tt)),
        ),
      )

      pub plan_refused : (e : SheetFault) (is : List ℕ) → Planned work slip'.lots slip'.rules s.windows book was (Err e) is → PlansFile file was (Err (Of e)) is
      plan_refused e is (r, same) =
          let last = subst (λ x. Refused (last_checks x (length was)) e) ready.sheet_is in
          elim (refused_split (first_checks work slip'.lots slip'.rules s.windows book) (last_checks (sheet_of s.windows book) (length was)) e r) [
            | inl f ↦ absurd (passes_refused (first_checks work slip'.lots slip'.rules s.windows book) e first_passes f)
            | inr x ↦ (unplanned s e ready.accepted (last x.1) refl, same)
          ]

      pub plan_made : (n : ℕ) (is : List ℕ) → Planned work slip'.lots slip'.rules s.windows book was (Ok n) is → PlansFile file was (Ok (length s.windows)) is
      plan_made n is (p, (ds, first, _, words)) = record {
        s = s;
        accepted = ready.accepted;
        days = ds;
        first = subst (λ x. Earliest x ds) ready.sheet_is first;
        room = elim (cases_lt (length was) (length s.windows)) [ inl few ↦ absurd (p.1.1.1.1.0 fault.ShortAnswer (few, refl)) | inr h ↦ h ];
        many = refl;
        words = words;
      }
