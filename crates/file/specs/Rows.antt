-- Adding the rules that some bytes hold.
use Rattle.std.specs.Prelude.{◌≡◌, ℕ, ◌<◌, List, ◌++◌, length, Ok, Err, Result}
use Rattle.std.specs.List.{AllByRecursion}
use Rattle.rules.specs.declared.row.Row.{Row}
use Rattle.sheet.specs.declared.book.Book.{Book}
use Rattle.sheet.specs.declared.fault.SheetFault.{SheetFault}
use Rattle.sheet.specs.declared.slip.Draft.{Draft}
use Rattle.sheet.specs.Drafts.{AddsAll}
use Rattle.file.specs.declared.fault.FileFault.{FileFault}
use Rattle.file.specs.declared.fault.FileFault.TheVariants.{Sheet}
use Rattle.file.specs.Format.{rules_bytes, SmallRule}

-- what a house is told of the sheet's answer: its refusal comes whole
abbrev pub told : Result (Unit {0}) SheetFault → Result (Unit {0}) FileFault
told (Ok done) = Ok done
told (Err fault) = Err (Sheet fault)

-- The bytes are those of some rules, and fewer than eight more: just these rules are added, all or none.
pub record AddsBytes (bytes : List ℕ) (slip : Draft) (was : Book) (r : Result (Unit {0}) FileFault) (slip' : Draft)
    (is : Book) : Type 0 where
  pub rows : List Row
  pub rest : List ℕ
  pub split : bytes ≡ rules_bytes rows ++ rest
  pub short : length rest < 8
  pub small : AllByRecursion SmallRule rows
  pub answer : Result (Unit {0}) SheetFault
  pub adds : AddsAll rows slip was answer slip' is
  pub is_told : r ≡ told answer
