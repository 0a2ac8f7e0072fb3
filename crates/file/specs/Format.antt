-- A sheet file. Every number has two bytes, the low one first. The lots come first, four bytes each, then the rules,
-- eight bytes each, then a trailer of eight bytes.
use Rattle.std.specs.Prelude.{◌≡◌, ℕ, ◌*◌, ◌≤◌, List, [], ◌∷◌, ◌++◌, length}
use Rattle.std.specs.List.{flat_map, AllByRecursion}
use Rattle.store.specs.declared.window.Window.{Window}
use Rattle.rules.specs.declared.row.Row.{Row}
use Rattle.rules.specs.Sheets.{Sheet}
use Rattle.file.specs.Numbers.{two, Small}

abbrev pub lot_bytes : Window → List ℕ
lot_bytes w = two w.low ++ two w.high

abbrev pub rule_bytes : Row → List ℕ
rule_bytes r = two r.stretch.first ++ (two r.stretch.length ++ (two r.floor ++ two r.ceiling))

abbrev pub lots_bytes : List Window → List ℕ
lots_bytes ws = flat_map lot_bytes ws

abbrev pub rules_bytes : List Row → List ℕ
rules_bytes rows = flat_map rule_bytes rows

-- three numbers, where the rules begin and how many lots and rules there are, and the letters H D
abbrev pub trailer : ℕ → ℕ → List ℕ
trailer lots rules = two (4 * lots) ++ (two lots ++ (two rules ++ (72 ∷ 68 ∷ [])))

-- the file of a sheet
abbrev pub file_of : Sheet → List ℕ
file_of s = lots_bytes s.windows ++ (rules_bytes s.rules ++ trailer (length s.windows) (length s.rules))

-- a file is that of a sheet, which has as many lots and rules as a sheet may have
pub record Holds (file : List ℕ) (s : Sheet) : Type 0 where
  pub is : file ≡ file_of s
  pub few_lots : length s.windows ≤ 256
  pub few_rules : length s.rules ≤ 32

-- numbers that two bytes can hold
abbrev pub SmallLot : Window → Type 0
SmallLot w = Small w.low × Small w.high

abbrev pub SmallRule : Row → Type 0
SmallRule r = Small r.stretch.first × Small r.stretch.length × Small r.floor × Small r.ceiling

abbrev pub SmallSheet : Sheet → Type 0
SmallSheet s = AllByRecursion SmallLot s.windows × AllByRecursion SmallRule s.rules
