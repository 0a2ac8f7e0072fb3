-- What writing a sheet file gives: the order of its checks, and the file that is written. A refusal leaves the bytes.
use Rattle.std.specs.Prelude.{◌≡◌, ℕ, ◌<◌, List, [], ◌∷◌, ◌++◌, length, Result, ◌≢◌}
use Rattle.store.specs.Checks.{Checked, refuse}
use Rattle.store.specs.Over.{over}
use Rattle.store.specs.declared.window.Window.{Window}
use Rattle.nvalue.specs.Seasons.{faulty}
use Rattle.sheet.specs.declared.book.Book.{Book}
use Rattle.sheet.specs.declared.fault.SheetFault.TheVariants.{TooManyLots, FaultyWindow, Mismatch}
use Rattle.sheet.specs.Books.{lots_of, sheet_of}
use Rattle.file.specs.declared.fault.FileFault.{FileFault}
use Rattle.file.specs.declared.fault.FileFault.TheVariants.{ShortBytes, Sheet}
use Rattle.file.specs.Format.{file_of}

-- the checks of writing a store's windows and a book's rules, before the last
abbrev pub write_checks : List Window → Book → List (FileFault → Type 0)
write_checks ws book =
    refuse (Sheet TooManyLots) (256 < length ws)
    ∷ refuse (Sheet Mismatch) (lots_of book ≢ length ws)
    ∷ faulty (λ lot. Sheet (FaultyWindow lot)) ws
    ∷ []

-- After some checks, a file is written over the first bytes where there are enough; its length is answered.
abbrev pub WritesBy : List (FileFault → Type 0) → List ℕ → List ℕ → Result ℕ FileFault → List ℕ → Type 0
WritesBy checks file was r is =
    Checked (checks ++ refuse ShortBytes (length was < length file) ∷ []) r
    (λ n. (n ≡ length file) × (is ≡ over file was))
    (is ≡ was)

abbrev pub Writes : List Window → Book → List ℕ → Result ℕ FileFault → List ℕ → Type 0
Writes ws book = WritesBy (write_checks ws book) (file_of (sheet_of ws book))
