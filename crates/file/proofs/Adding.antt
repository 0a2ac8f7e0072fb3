-- The rules that some bytes hold, cut off where no book holds more.
use Rattle.std.proofs.Common.{◌≡◌, ℕ, ◌-◌, ◌*◌, ◌/◌, ◌<◌, min, List, [], ◌∷◌, ◌++◌, length, take, drop, Result, sym, ap, ◌∙◌, subst, inl, inr, arith}
use Rattle.std.specs.List.{AllByRecursion}
use Rattle.std.proofs.ByRecursion.{All-append, All-drop, All-take}
use Rattle.std.proofs.lemmas.Bool.{cases_lt}
use Rattle.std.proofs.lemmas.List.{append_assoc, append-nil, length-append, length-drop, length-take-le, nil_from_length, take-append-drop, take-take}
use Rattle.std.proofs.lemmas.List.Concat.{flat_map-append}
use Rattle.rules.specs.declared.row.Row.{Row}
use Rattle.sheet.specs.declared.book.Book.{Book}
use Rattle.sheet.specs.declared.fault.SheetFault.{SheetFault}
use Rattle.sheet.specs.declared.slip.Draft.{Draft}
use Rattle.sheet.specs.Books.{rules_of}
use Rattle.sheet.specs.Drafts.{AddsAll, refused, all_added}
use Rattle.sheet.proofs.Books.{rules_length}
use Rattle.sheet.proofs.Drafts.{each_rules}
use Rattle.file.specs.declared.fault.FileFault.{FileFault}
use Rattle.file.specs.Format.{rule_bytes, rules_bytes, SmallRule}
use Rattle.file.specs.Rows.{AddsBytes, told}
use Rattle.file.proofs.Bytes.{Byte, join, length_rules, rules_held}

-- no book holds more than 32 rules: so what is refused among the first is refused of all
adds_front : (front back : List Row) (slip : Draft) (was : Book) (s : Result (Unit {0}) SheetFault) (slip' : Draft) (is : Book)
    → 32 < length front → AddsAll front slip was s slip' is → AddsAll (front ++ back) slip was s slip' is
adds_front front back slip was s slip' is many (refused why f r m w) =
    let split = ap (λ xs. xs ++ back) f.split ∙ append_assoc f.before (f.q ∷ f.after) back in
    refused why (record { before = f.before; q = f.q; after = f.after ++ back; split = split; mid = f.mid; book = f.book; added = f.added; refused = f.refused }) r m w
adds_front front back slip was s slip' is many (all_added each r) =
    absurd (omega (arith, ap length (each_rules front slip was slip' is each), length-append (rules_of was) front, rules_length is, is.few))

module _ (bs : List ℕ) (byte : AllByRecursion Byte bs) (slip : Draft) (was : Book) (s : Result (Unit {0}) SheetFault) (slip' : Draft) (is : Book) where
  -- the contract of the reader, from what add rows gives for the first rules
  pub adds_bytes : (count : ℕ) (rows : List Row) (r : Result (Unit {0}) FileFault) → count ≡ min (length bs / 8) 33
      → rules_bytes rows ≡ take (8 * count) bs → AllByRecursion SmallRule rows → AddsAll rows slip was s slip' is → r ≡ told s
      → AddsBytes bs slip was r slip' is
  adds_bytes count rows r e bytes small added t =
      let n = length bs / 8 in
      let full = take (8 * n) bs in
      let long : length full ≡ 8 * n = length-take-le (8 * n) bs (omega arith) in
      let more = rules_held (n - count) (drop (8 * count) full) (All-drop Byte (8 * count) full (All-take Byte (8 * n) bs byte)) (omega (arith, length-drop (8 * count) full)) in
      let first : rules_bytes rows ≡ take (8 * count) full = bytes ∙ sym (take-take (8 * count) (8 * n) bs (omega arith)) in
      let all : rules_bytes (rows ++ more.0) ≡ full =
      flat_map-append rule_bytes rows more.0 ∙ join first more.1 ∙ take-append-drop (8 * count) full in
      let many : length rows ≡ count = omega (arith, length_rules rows, ap length bytes, length-take-le (8 * count) bs (omega arith)) in
      let none : n < 34 → more.0 ≡ [] = λ h. nil_from_length more.0 (omega (arith, length_rules more.0, ap length more.1, length-drop (8 * count) full)) in
      record {
        rows = rows ++ more.0;
        rest = drop (8 * n) bs;
        split = sym (take-append-drop (8 * n) bs) ∙ ap (λ xs. xs ++ drop (8 * n) bs) (sym all);
        short = omega (arith, length-drop (8 * n) bs);
        small = All-append SmallRule rows more.0 small more.2;
        answer = s;
        adds = elim (cases_lt n 34) [
          | inl h ↦ subst (λ xs. AddsAll xs slip was s slip' is) (sym (append-nil rows) ∙ ap (λ xs. rows ++ xs) (sym (none h))) added
          | inr h ↦ adds_front rows more.0 slip was s slip' is (omega arith) added
        ];
        is_told = t;
      }
