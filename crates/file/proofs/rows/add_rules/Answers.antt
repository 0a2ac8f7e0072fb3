use Rattle.std.proofs.Common.{Err, sym, ap, ◌∙◌, arith}
use Rattle.std.proofs.ByRecursion.{All-from_get_or}
use Rattle.std.proofs.lemmas.Result.{err_from_is_err_and}
use Rattle.file.specs.Rows.{told}
use Rattle.file.proofs.Adding.{adds_bytes}
use Rattle.file.proofs.Bytes.{Byte}
use Rattle.file.proofs.rows.add_rules.Goals as goal

pub returns-in_err-add_rows : goal.returns-in_err-add_rows
returns-in_err-add_rows c =
    let p = err_from_is_err_and c.from_residual.result c.from_residual.ensures.1 in
    let bs = c.args.rows.now in
    adds_bytes bs (All-from_get_or Byte bs 0 (λ i h. omega (arith, c.type_inv.rows i))) c.args.slip.now c.args.book.now
    c.add_rows.result c.add_rows.new.slip c.add_rows.new.book c.min-count.result _ _ c.min-count.ensures
    c.read_rows.ensures.bytes c.read_rows.ensures.small c.add_rows.ensures (p.1 ∙ ap Err p.2 ∙ sym (ap told c.in_err-add_rows.was))

pub returns : goal.returns
returns c =
    let bs = c.args.rows.now in
    adds_bytes bs (All-from_get_or Byte bs 0 (λ i h. omega (arith, c.type_inv.rows i))) c.args.slip.now c.args.book.now
    c.add_rows.result c.add_rows.new.slip c.add_rows.new.book c.min-count.result _ _ c.min-count.ensures
    c.read_rows.ensures.bytes c.read_rows.ensures.small c.add_rows.ensures (sym (ap told c.in_ok-add_rows.was))
