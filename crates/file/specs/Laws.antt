-- The laws of sheet files, each as a statement that some function's contract names.
use Rattle.std.specs.Prelude.{◌≡◌, ℕ, ◌*◌, ◌≤◌, List, [], length, take, Ok, Result}
use Rattle.store.specs.Over.{over}
use Rattle.store.specs.declared.window.Window.{Window}
use Rattle.store.specs.Pairs.{paired}
use Rattle.rules.specs.declared.row.Row.{Row}
use Rattle.rules.specs.Sheets.{Sheet}
use Rattle.sheet.specs.declared.book.Book.{Book}
use Rattle.sheet.specs.declared.fault.SheetFault.{SheetFault}
use Rattle.sheet.specs.declared.slip.Draft.{Draft}
use Rattle.sheet.specs.Books.{rules_of, sheet_of}
use Rattle.sheet.specs.Drafts.{AddsAll, Starts}
use Rattle.file.specs.declared.fault.FileFault.{FileFault}
use Rattle.file.specs.declared.read.Contents.{Contents}
use Rattle.file.specs.Format.{Holds, file_of, rules_bytes}
use Rattle.file.specs.Reads.{Reads, Tells}
use Rattle.file.specs.Rows.{AddsBytes, told}
use Rattle.file.specs.Writes.{Writes}

-- two sheets with the same file are the same
abbrev pub OneSheetForAFile : Type 0
OneSheetForAFile = (s t : Sheet) → file_of s ≡ file_of t → s ≡ t

-- who reads these bytes, given words enough, finds just this sheet
abbrev pub ReadsBack : Sheet → List ℕ → Type 0
ReadsBack s file =
    (was : List ℕ) (r : Result Contents FileFault) (is : List ℕ) → 2 * length s.windows ≤ length was
    → Reads file was r is → (h : Contents) × (r ≡ Ok h) × Tells s h was is

-- a file of a sheet's size is never refused, given words enough, and what is read is what was written
abbrev pub ReadWhatWasWritten : Type 0
ReadWhatWasWritten = (s : Sheet) (file : List ℕ) → Holds file s → ReadsBack s file

-- where bytes are those of some rules, just these rules are added
abbrev pub JustTheseRules : Type 0
JustTheseRules =
    (rows : List Row) (slip : Draft) (was : Book) (r : Result (Unit {0}) FileFault) (slip' : Draft) (is : Book)
    → AddsBytes (rules_bytes rows) slip was r slip' is
    → (s : Result (Unit {0}) SheetFault) × AddsAll rows slip was s slip' is × (r ≡ told s)

-- the windows in the words of the lots that were read
abbrev pub windows_in : Contents → List ℕ → List Window
windows_in h words = paired (take (2 * h.lots) words)

-- Who adds the rules that were read to a book with none, all accepted, and writes them with the windows in the words,
-- writes this file.
abbrev pub WritesBack : List ℕ → Contents → List ℕ → Type 0
WritesBack file h words =
    (slip : Draft) (was : Book) (slip' : Draft) (book : Book) (into : List ℕ) (n : ℕ) (out : List ℕ)
    → rules_of was ≡ [] → AddsBytes h.rows.now slip was (Ok tt) slip' book
    → Writes (windows_in h words) book into (Ok n) out → (n ≡ length file) × (out ≡ over file into)

-- what was read is written as it was
abbrev pub WrittenAsItWasRead : Type 0
WrittenAsItWasRead = (file was is : List ℕ) (h : Contents) → Reads file was (Ok h) is → WritesBack file h is

-- who adds the rules in some bytes with the slip and the book of a start has all of them accepted, and this sheet
abbrev pub AddsUpTo : Sheet → List Window → List ℕ → Draft → Book → Type 0
AddsUpTo s ws bytes slip begun =
    (r : Result (Unit {0}) FileFault) (slip' : Draft) (book : Book) → AddsBytes bytes slip begun r slip' book
    → (r ≡ Ok tt) × (sheet_of ws book ≡ s)

-- Who reads these bytes, given words enough, starts a sheet on the words of its lots and adds its rules, is not refused
-- anywhere, and has this sheet.
abbrev pub GivesBack : Sheet → List ℕ → Type 0
GivesBack s file =
    (was is : List ℕ) (h : Contents) → Reads file was (Ok h) is → (empty begun : Book) (r : Result Draft SheetFault)
    → Starts (windows_in h is) empty r begun
    → (slip : Draft) × (r ≡ Ok slip) × AddsUpTo s (windows_in h is) h.rows.now slip begun
