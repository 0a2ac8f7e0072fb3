-- There is room for every text.
use Rattle.std.proofs.Common.{◌≡◌, ℕ, suc, ◌+◌, ◌*◌, ◌≤◌, List, [], ◌∷◌, ◌++◌, length, codes, decimal, ap, arith}
use Rattle.std.specs.List.{AllByRecursion}
use Rattle.std.proofs.lemmas.Fmt.{length-decimal-le}
use Rattle.std.proofs.lemmas.List.{length-append}
use Rattle.store.specs.declared.window.Window.{Window}
use Rattle.store.specs.Checks.{Refused, here, later}
use Rattle.store.specs.Texts.{refused_text}
use Rattle.store.specs.Sound.{Sound}
use Rattle.nvalue.specs.Choices.{Choice}
use Rattle.nvalue.specs.Nvalue.{nvalue}
use Rattle.nvalue.proofs.Choices.{choice_length}
use Rattle.nvalue.proofs.Nvalue.{nvalue_le_length}
use Rattle.rules.specs.declared.row.Row.{Row}
use Rattle.sheet.specs.declared.fault.SheetFault.{SheetFault}
use Rattle.rules.specs.Sheets.{Sheet}
use Rattle.sheet.specs.Drafts.{rules_checks}
use Rattle.sheet.specs.Faults as sheet
use Rattle.file.specs.declared.fault.FileFault.{FileFault}
use Rattle.file.specs.Faults.{number_of, place_of}
use Rattle.listing.specs.Text.{count_line, entry, lines_from, list_of, lot_line, pair_line, refusal_line}
use Rattle.reply.specs.declared.reply.Replied.{Replied}
use Rattle.reply.specs.Files as files
use Rattle.reply.specs.Files.{Refuses, file_checks, fit_checks, last_checks}
use Rattle.reply.specs.Replies as replies
use Rattle.reply.specs.Replies.{Text}

-- no day of a choice of sound windows has more than four digits
sound_days : (ws : List Window) (ds : List ℕ) → AllByRecursion Sound ws → Choice ws ds → AllByRecursion (λ d. d ≤ 9999) ds
sound_days [] [] s c = tt
sound_days [] (d ∷ ds) s c = absurd c
sound_days (w ∷ ws) [] s c = absurd c
sound_days (w ∷ ws) (d ∷ ds) s c = (omega (arith, s.0.1, c.0), sound_days ws ds s.1 c.1)

four_digits : (n : ℕ) → n ≤ 9999 → length (decimal n) ≤ 4
four_digits n small = length-decimal-le 4 n (omega arith) (omega arith) (omega arith)

pair_line_length : (word other : List ℕ) (m n : ℕ) → length (pair_line word m other n) ≡ length word + length (decimal m) + (length other + length (decimal n)) + 1
pair_line_length word other m n =
    omega (arith, length-append (entry word m ++ entry other n) (10 ∷ []), length-append (entry word m) (entry other n), length-append word (decimal m), length-append other (decimal n))

lot_line_short : (lot day : ℕ) → lot ≤ 9999 → day ≤ 9999 → length (lot_line lot day) ≤ 18
lot_line_short lot day l d = omega (arith, pair_line_length (codes "lot ") (codes " day ") lot day, four_digits lot l, four_digits day d)

lines_short : (lot : ℕ) (ds : List ℕ) → lot + length ds ≤ 9999 → AllByRecursion (λ d. d ≤ 9999) ds → length (lines_from lot ds) ≤ 18 * length ds
unfolding lines_from
lines_short lot [] few small = omega arith
lines_short lot (d ∷ ds) few small =
    omega (arith, length-append (lot_line lot d) (lines_from (suc lot) ds), lot_line_short lot d (omega arith) small.0, lines_short (suc lot) ds (omega arith) small.1)

list_short : (ds : List ℕ) → length ds ≤ 256 → AllByRecursion (λ d. d ≤ 9999) ds → length (list_of ds) ≤ 8192
list_short ds few small =
    let count = nvalue ds in
    let line = count_line count in
    omega (arith, length-append (lines_from 0 ds) line, lines_short 0 ds (omega arith) small, nvalue_le_length ds, four_digits count (omega (arith, nvalue_le_length ds)), length-append (entry (codes "days ") count) (10 ∷ []), length-append (codes "days ") (decimal count))

refusal_short : (number place : ℕ) → number ≤ 9999 → place ≤ 9999 → length (refusal_line number place) ≤ 8192
refusal_short number place n p =
    let front = codes "refused " ++ decimal number in
    omega (arith, length-append (refused_text number place) (10 ∷ []), length-append (front ++ codes " place ") (decimal place), length-append front (codes " place "), length-append (codes "refused ") (decimal number), four_digits number n, four_digits place p)

-- neither its number nor its place is great
abbrev ToldShort : SheetFault → Type 0
ToldShort why = (sheet.number_of why ≤ 9999) × (sheet.place_of why ≤ 9999)

rules_short : (lots : ℕ) (rows : List Row) (why : SheetFault) → Refused (rules_checks lots rows) why → ToldShort why
rules_short lots [] why r = absurd r
rules_short lots (q ∷ rows) why (here h) = rw h.1 (omega arith, omega arith)
rules_short lots (q ∷ rows) why (later _ (here h)) = rw h.1 (omega arith, omega arith)
rules_short lots (q ∷ rows) why (later _ (later _ r)) = rules_short lots rows why r

unfit_short : (s : Sheet) (why : SheetFault) → length s.windows ≤ 256 → Refused (fit_checks s) why → ToldShort why
unfit_short s why few (here (p, f, e)) = rw e (omega arith, omega (arith, f.there, few))
unfit_short s why few (later _ r) = rules_short (length s.windows) s.rules why r

unplanned_short : (s : Sheet) (room : ℕ) (why : SheetFault) → Refused (last_checks s room) why → ToldShort why
unplanned_short s room why (here h) = rw h.1 (omega arith, omega arith)
unplanned_short s room why (later _ (here h)) = rw h.1 (omega arith, omega arith)
unplanned_short s room why (later _ (later _ r)) = absurd r

unread_short : (file : List ℕ) (e : FileFault) → Refused (file_checks file) e → (number_of e ≤ 9999) × (place_of e ≤ 9999)
unread_short file e (here h) = rw h.1 (omega arith, omega arith)
unread_short file e (later _ (here h)) = rw h.1 (omega arith, omega arith)
unread_short file e (later _ (later _ (here h))) = rw h.1 (omega arith, omega arith)
unread_short file e (later _ (later _ (later _ r))) = absurd r

-- what a file is refused with names no great number
told_short : (file : List ℕ) (e : FileFault) → Refuses file 256 e → (number_of e ≤ 9999) × (place_of e ≤ 9999)
told_short file e (files.Refuses.unread r) = unread_short file e r
told_short file e (files.Refuses.unfit s why h r is) = rw is (unfit_short s why h.few_lots r)
told_short file e (files.Refuses.unplanned s why a r is) = rw is (unplanned_short s 256 why r)

pub text_short : (file text : List ℕ) (told : Replied) → Text file text told → length text ≤ 8192
text_short file text told (replies.Text.plan s ds ok first is _) =
    let few : length ds ≤ 256 = omega (arith, choice_length s.windows ds first.plan.choice, ok.holds.few_lots) in
    omega (arith, ap length is, list_short ds few (sound_days s.windows ds ok.sound first.plan.choice))
text_short file text told (replies.Text.refusal e why is _) =
    let short = told_short file e why in
    omega (arith, ap length is, refusal_short (number_of e) (place_of e) short.0 short.1)
