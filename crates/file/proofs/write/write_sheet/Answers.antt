use Rattle.std.proofs.Common.{◌+◌, ◌*◌, length, refl, ap, ◌∙◌, arith}
use Rattle.store.specs.Checks.{here}
use Rattle.store.specs.Over.{over}
use Rattle.rules.specs.Sheets.{sheet}
use Rattle.file.proofs.Bytes.{join, length_lots, length_rules}
use Rattle.file.proofs.Sheets.{length_file}
use Rattle.file.proofs.Writing.{parts_written}
use Rattle.file.proofs.write.write_sheet.Goals as goal

pub returns-then-bytes-end : goal.returns-then-bytes-end
returns-then-bytes-end c = (here (omega (arith, length_file (sheet c.args.windows.now c.args.rows.now)), refl), refl)

pub returns : goal.returns
returns c =
    let ws = c.args.windows.now in
    let rows = c.args.rows.now in
    let was = c.args.bytes.now in
    let long = length_file (sheet ws rows) in
    let lots = c.write_lots.ensures in
    let rules = c.write_rules.ensures in
    let end = c.copy_from_slice.ensures.after ∙ c.trailer_record.ensures in
    let made = parts_written was c.write_lots.new.bytes c.write_rules.new.bytes c.copy_from_slice.new.self (4 * length ws) _ (4 * length ws + 8 * length rows) _
    (omega (arith, ap length lots, length_lots ws)) (omega (arith, ap length rules, length_rules rows)) (omega (arith, ap length end)) (omega arith) (omega arith) in (
      (λ e x. omega (arith, x.0, long), tt),
      (omega (arith, long), made ∙ ap (λ text. over text was) (join lots (join rules end))),
    )
