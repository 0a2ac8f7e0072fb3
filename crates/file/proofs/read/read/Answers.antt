use Rattle.std.proofs.Common.{◌≡◌, ◌+◌, ◌-◌, ◌*◌, take, drop, sym, ap, ◌∙◌, arith}
use Rattle.std.specs.List.{AllByRecursion}
use Rattle.std.proofs.ByRecursion.{All-drop, All-from_get_or, All-take}
use Rattle.std.proofs.lemmas.List.{length-drop, length-take-le}
use Rattle.rules.specs.Sheets.{sheet}
use Rattle.file.specs.Reads.{Agrees}
use Rattle.file.proofs.Again.{written_again}
use Rattle.file.proofs.Bytes.{Byte, rules_held}
use Rattle.file.proofs.Reading.{sheet_held}
use Rattle.file.proofs.read.read.Goals as goal

pub returns-clause-reads : goal.returns-clause-reads
returns-clause-reads c =
    let file = c.args.file.now in
    let t = c.in_ok-trailer.ensures in
    let n = c.from-lots.result in
    let m = c.from-rules.result in
    let byte : AllByRecursion Byte file = All-from_get_or Byte file 0 (λ i h. omega (arith, c.type_inv.file i)) in
    let agrees : Agrees file = (omega arith, omega arith, omega arith, omega arith) in
    let tail = take (8 * m) (drop (4 * n) file) in
    let rows = rules_held m tail (All-take Byte (8 * m) (drop (4 * n) file) (All-drop Byte (4 * n) file byte)) (length-take-le (8 * m) (drop (4 * n) file) (omega (arith, length-drop (4 * n) file))) in
    let (ws, lots, small, words) = c.read_lots.ensures in
    let held = sheet_held file byte t.0 agrees n m ws rows.0 (c.from-lots.ensures ∙ t.2) (c.from-rules.ensures ∙ t.3) lots rows.1 in
    let part = ap (λ k. take k (drop (4 * n) file)) (let k : 4 * n + 8 * m - 4 * n ≡ 8 * m = omega arith in k) in (
      (λ e x. x.0 t.0, (λ e x. x.0 agrees, (λ e x. omega (arith, x.0, c.from-lots.ensures, t.2), tt))),
      (sheet ws rows.0, held.0, (small, rows.2), record { lots = held.1; rules = held.2; part = part ∙ sym rows.1; words = words }),
    )

pub returns-clause-again : goal.returns-clause-again
returns-clause-again c = written_again c.args.file.now c.args.words.now _ _ (returns-clause-reads c)
