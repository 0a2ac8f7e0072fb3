-- What reading a sheet file gives: the order of its checks, and the sheet that is read. A refusal leaves the words.
use Rattle.std.specs.Prelude.{◌≡◌, ℕ, ◌+◌, ◌-◌, ◌*◌, ◌<◌, ◌≤◌, List, [], ◌∷◌, length, drop, Result, slice_index}
use Rattle.std.specs.List.{AllByRecursion}
use Rattle.store.specs.Checks.{Checked, refuse}
use Rattle.store.specs.declared.window.Window.{Window}
use Rattle.store.specs.Pairs.{rewritten}
use Rattle.rules.specs.Sheets.{Sheet}
use Rattle.file.specs.declared.fault.FileFault.{FileFault}
use Rattle.file.specs.declared.fault.FileFault.TheVariants.{NoSheetFile, TrailerDisagrees, ShortWords}
use Rattle.file.specs.declared.read.Contents.{Contents}
use Rattle.file.specs.declared.read.Trailer.{Trailer}
use Rattle.file.specs.Format.{Holds, SmallLot, SmallSheet, lots_bytes, rules_bytes}

-- the byte at a place of the last eight, and the number at a place of them
abbrev pub end_byte : List ℕ → ℕ → ℕ
end_byte file k = slice_index (drop (length file - 8) file) k

abbrev pub end_number : List ℕ → ℕ → ℕ
end_number file k = end_byte file k + 256 * end_byte file (k + 1)

abbrev pub place_in : List ℕ → ℕ
place_in file = end_number file 0

abbrev pub lots_in : List ℕ → ℕ
lots_in file = end_number file 2

abbrev pub rules_in : List ℕ → ℕ
rules_in file = end_number file 4

-- eight bytes or more, the last two H and D
abbrev pub Ends : List ℕ → Type 0
Ends file = (8 ≤ length file) × (end_byte file 6 ≡ 72) × (end_byte file 7 ≡ 68)

-- the three numbers of the trailer
abbrev pub IsTrailer : List ℕ → Trailer → Type 0
IsTrailer file t = Ends file × (t.place ≡ place_in file) × (t.lots ≡ lots_in file) × (t.rules ≡ rules_in file)

-- The rules begin behind the lots; lots, rules and trailer are the whole file; and they are not too many.
abbrev pub Agreeing : ℕ → ℕ → ℕ → ℕ → Type 0
Agreeing place lots rules long =
    (place ≡ 4 * lots) × (long ≡ 4 * lots + 8 * rules + 8) × (lots ≤ 256) × (rules ≤ 32)

abbrev pub Agrees : List ℕ → Type 0
Agrees file = Agreeing (place_in file) (lots_in file) (rules_in file) (length file)

-- the checks of reading a file into so many words
abbrev pub read_checks : List ℕ → ℕ → List (FileFault → Type 0)
read_checks file room =
    refuse NoSheetFile (Ends file → ⊥)
    ∷ refuse TrailerDisagrees (Agrees file → ⊥)
    ∷ refuse ShortWords (room < 2 * lots_in file)
    ∷ []

-- A sheet as it is read: how many lots and rules, the bytes of the rules, and two words for each lot, over the first.
pub record Tells (s : Sheet) (h : Contents) (was is : List ℕ) : Type 0 where
  pub lots : h.lots ≡ length s.windows
  pub rules : h.rules ≡ length s.rules
  pub part : h.rows.now ≡ rules_bytes s.rules
  pub words : is ≡ rewritten was s.windows

-- the file holds a sheet, and that sheet is read
abbrev pub ReadSheet : List ℕ → List ℕ → List ℕ → Contents → Type 0
ReadSheet file was is h = (s : Sheet) × Holds file s × SmallSheet s × Tells s h was is

abbrev pub Reads : List ℕ → List ℕ → Result Contents FileFault → List ℕ → Type 0
Reads file was r is = Checked (read_checks file (length was)) r (ReadSheet file was is) (is ≡ was)

-- the windows that some bytes hold are written over the first words
abbrev pub ReadLots : List ℕ → List ℕ → List ℕ → Type 0
ReadLots bytes was is =
    (ws : List Window) × (lots_bytes ws ≡ bytes) × AllByRecursion SmallLot ws × (is ≡ rewritten was ws)
