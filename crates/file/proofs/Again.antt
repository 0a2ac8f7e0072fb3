-- A sheet that is written and read again, and a file that is read and written again.
use Rattle.std.proofs.Common.{◌≡◌, ℕ, ◌*◌, ◌<◌, ◌≤◌, List, [], ◌++◌, length, take, drop, IfOk, Ok, Err, Result, inl, inr, sym, refl, ap, ◌∙◌, subst, ap₂, arith}
use Rattle.std.specs.List.{AllByRecursion}
use Rattle.std.proofs.ByRecursion.{All-get_or}
use Rattle.std.proofs.lemmas.Bool.{cases_lt}
use Rattle.std.proofs.lemmas.List.{append-nil, length-append, nil_from_length, take_at}
use Rattle.store.specs.Checks.{Passes}
use Rattle.store.specs.Over.{over}
use Rattle.store.specs.Pairs.{paired}
use Rattle.store.specs.Sound.{Sound}
use Rattle.store.specs.declared.window.Window.{Window}
use Rattle.store.specs.Windows.{window}
use Rattle.store.proofs.Checks.{passes_refused}
use Rattle.rules.specs.declared.row.Row.{Row}
use Rattle.rules.specs.Sheets.{Fits, Sheet, sheet}
use Rattle.sheet.specs.declared.book.Book.{Book}
use Rattle.sheet.specs.declared.fault.SheetFault.{SheetFault}
use Rattle.sheet.specs.declared.slip.Draft.{Draft}
use Rattle.sheet.specs.Books.{rules_of, sheet_of}
use Rattle.sheet.specs.Drafts.{AddsAll, Starts, refused, all_added, window_checks}
use Rattle.sheet.proofs.Drafts.{each_rules, fit_added}
use Rattle.file.specs.declared.fault.FileFault.{FileFault}
use Rattle.file.specs.declared.fault.FileFault.TheVariants.{ShortWords}
use Rattle.file.specs.declared.read.Contents.{Contents}
use Rattle.file.specs.Format.{Holds, file_of, rules_bytes}
use Rattle.file.specs.Laws.{AddsUpTo, GivesBack, ReadsBack, WritesBack, windows_in}
use Rattle.file.specs.Reads.{ReadSheet, Reads, Tells, read_checks}
use Rattle.file.specs.Rows.{AddsBytes, told}
use Rattle.file.specs.Writes.{WritesBy}
use Rattle.file.proofs.Bytes.{length_rules, rules_same}
use Rattle.file.proofs.Reading.{paired_rewritten}
use Rattle.file.proofs.Sheets.{holds_lots, holds_passes, one_sheet}

-- what was read of a sheet's file is that sheet
tells_this : (s : Sheet) (file was is : List ℕ) (h : Contents) → Holds file s → ReadSheet file was is h → Tells s h was is
tells_this s file was is h holds (t, mine, _, tells) = subst (λ x. Tells x h was is) (one_sheet t s (sym mine.is ∙ holds.is)) tells

pub read_back : (s : Sheet) (file : List ℕ) → Holds file s → ReadsBack s file
read_back s file holds was (Ok h) is room (_, read) = (h, refl, tells_this s file was is h holds read)
read_back s file holds was (Err e) is room (r, _) = absurd (passes_refused (read_checks file (length was)) e (holds_passes file s holds (length was) room) r)

-- bytes of rules, and fewer than eight more, are the bytes of no other rules
just_rows : (rows qs : List Row) (rest : List ℕ) → rules_bytes rows ≡ rules_bytes qs ++ rest → length rest < 8 → qs ≡ rows
just_rows rows qs rest e short =
    let none : rest ≡ [] = nil_from_length rest (omega (arith, ap length e, length-append (rules_bytes qs) rest, length_rules rows, length_rules qs)) in
    sym (rules_same rows qs (e ∙ ap (λ xs. rules_bytes qs ++ xs) none ∙ append-nil (rules_bytes qs)))

pub just_these : (rows : List Row) (slip : Draft) (was : Book) (r : Result (Unit {0}) FileFault) (slip' : Draft) (is : Book)
    → AddsBytes (rules_bytes rows) slip was r slip' is → (s : Result (Unit {0}) SheetFault) × AddsAll rows slip was s slip' is × (r ≡ told s)
just_these rows slip was r slip' is a =
    (a.answer, subst (λ xs. AddsAll xs slip was a.answer slip' is) (just_rows rows a.rows a.rest a.split a.short) a.adds, a.is_told)

-- accepted rules stand in the book
all_stand : (rows : List Row) (slip : Draft) (was : Book) (s : Result (Unit {0}) SheetFault) (slip' : Draft) (is : Book) → Ok tt ≡ told s
    → AddsAll rows slip was s slip' is → rules_of is ≡ rules_of was ++ rows
all_stand rows slip was (Err why) slip' is t each = cc
all_stand rows slip was (Ok done) slip' is t (refused why f r _ _) = cc
all_stand rows slip was (Ok done) slip' is t (all_added each _) = each_rules rows slip was slip' is each

module _ (s : Sheet) (file was is : List ℕ) (h : Contents) (holds : Holds file s) (reads : Reads file was (Ok h) is) where
  tells : Tells s h was is
  tells = tells_this s file was is h holds reads.1

  -- so are the windows in the words
  pub windows_are : windows_in h is ≡ s.windows
  windows_are =
      let lots = tells.lots in
      let room : 2 * length s.windows ≤ length was = elim (cases_lt (length was) (2 * length s.windows)) [
        | inl few ↦ absurd (reads.0.1.1.0 ShortWords (omega (arith, holds_lots file s holds), refl))
        | inr enough ↦ enough
      ] in
      ap₂ (λ n words. paired (take (2 * n) words)) lots tells.words ∙ paired_rewritten was s.windows room

  these_added : (slip : Draft) (from : Book) (r : Result (Unit {0}) FileFault) (slip' : Draft) (book : Book) → AddsBytes h.rows.now slip from r slip' book
      → (t : Result (Unit {0}) SheetFault) × AddsAll s.rules slip from t slip' book × (r ≡ told t)
  these_added slip from r slip' book a = just_these s.rules slip from r slip' book (subst (λ bs. AddsBytes bs slip from r slip' book) tells.part a)

  pub writes_back : WritesBack file h is
  writes_back slip from slip' book into n out none added writes =
      let made = these_added slip from (Ok tt) slip' book added in
      let rules = all_stand s.rules slip from made.0 slip' book made.2 made.1 ∙ ap (λ xs. xs ++ s.rules) none in
      let this : file_of (sheet_of (windows_in h is) book) ≡ file = ap₂ (λ ws rs. file_of (sheet ws rs)) windows_are rules ∙ sym holds.is in
      (writes.1.0 ∙ ap length this, writes.1.1 ∙ ap (λ f. over f into) this)

  module _ (sound : AllByRecursion Sound s.windows) (fit : AllByRecursion (Fits (length s.windows)) s.rules) where
    passes : Passes (window_checks s.windows)
    passes = (λ e n. omega (arith, n.0, holds.few_lots), (λ e n. n.1.faulty (All-get_or Sound s.windows n.0 (window 0 0) n.1.there sound), tt))

    started : (empty begun : Book) (r : Result Draft SheetFault) → Starts s.windows empty r begun → (slip : Draft) × (r ≡ Ok slip) × AddsUpTo s s.windows h.rows.now slip begun
    started empty begun (Err e) (why, _) = absurd (passes_refused (window_checks s.windows) e passes why)
    started empty begun (Ok slip) (_, made) = (
      slip,
      refl,
      λ r slip' book a.
          let t = these_added slip begun r slip' book a in
          let lots : slip.lots ≡ length s.windows = ap (λ x. x.lots) made.0 in
          let rules : slip.rules ≡ length (rules_of begun) = ap (λ x. x.rules) made.0 ∙ ap length (sym made.2) in
          let stands = fit_added s.rules slip begun (lots ∙ sym made.1, rules) (omega (arith, ap length made.2, holds.few_rules)) t.0 slip' book (subst (λ n. AllByRecursion (Fits n) s.rules) (sym lots) fit) t.1 in
          (t.2 ∙ ap told stands.0, ap (sheet s.windows) (stands.1 ∙ ap (λ xs. xs ++ s.rules) made.2)),
    )

    pub starts_again : (empty begun : Book) (r : Result Draft SheetFault) → Starts (windows_in h is) empty r begun
        → (slip : Draft) × (r ≡ Ok slip) × AddsUpTo s (windows_in h is) h.rows.now slip begun
    starts_again empty begun r starts =
        subst (λ ws. (slip : Draft) × (r ≡ Ok slip) × AddsUpTo s ws h.rows.now slip begun) (sym windows_are)
        (started empty begun r (subst (λ ws. Starts ws empty r begun) windows_are starts))

pub written_again : (file was is : List ℕ) (h : Contents) → Reads file was (Ok h) is → WritesBack file h is
written_again file was is h reads = writes_back reads.1.0 file was is h reads.1.1 reads

pub given_back : (s : Sheet) (file : List ℕ) → Holds file s → AllByRecursion Sound s.windows → AllByRecursion (Fits (length s.windows)) s.rules → GivesBack s file
given_back s file holds sound fit was is h reads = starts_again s file was is h holds reads sound fit

-- the sheet that was written, and its files in the bytes
pub windows_written : (ws room was : List Window) (lots : ℕ) → lots ≡ length ws → room ≡ over ws was → take lots room ≡ ws
windows_written ws room was lots many filled = ap (take lots) filled ∙ take_at ws (drop (length ws) was) lots (sym many)

pub if_written : (s t : Sheet) (was is : List ℕ) (r : Result ℕ FileFault) (Says : List ℕ → Type 0) → s ≡ t → length s.windows ≤ 256
    → length s.rules ≤ 32 → ((file : List ℕ) → Holds file t → Says file) → WritesBy [] (file_of s) was r is → IfOk r (λ n. Says (take n is))
if_written s t was is (Err e) Says same few some says w = tt
if_written s t was is (Ok n) Says same few some says (_, made) =
    let front = take_at (file_of s) (drop (length (file_of s)) was) (length (file_of s)) refl in
    let holds : Holds (take n is) s = record { is = ap₂ take made.0 made.1 ∙ front; few_lots = few; few_rules = some } in
    says (take n is) (subst (Holds (take n is)) same holds)
