-- The number by which a house knows a refusal, and the lot or the rule that it names: 0 where it names none.
use Rattle.std.specs.Prelude.{ℕ, List}
use Rattle.store.specs.Texts.{refused_text}
use Rattle.sheet.specs.Faults as sheet
use Rattle.file.specs.declared.fault.FileFault.{FileFault}
use Rattle.file.specs.declared.fault.FileFault.TheVariants.{NoSheetFile, TrailerDisagrees, ShortWords, ShortBytes, Sheet}

abbrev pub number_of : FileFault → ℕ
number_of NoSheetFile = 8
number_of TrailerDisagrees = 9
number_of ShortWords = 7
number_of ShortBytes = 7
number_of (Sheet fault) = sheet.number_of fault

abbrev pub place_of : FileFault → ℕ
place_of NoSheetFile = 0
place_of TrailerDisagrees = 0
place_of ShortWords = 0
place_of ShortBytes = 0
place_of (Sheet fault) = sheet.place_of fault

abbrev pub fault_text : FileFault → List ℕ
fault_text fault = refused_text (number_of fault) (place_of fault)
