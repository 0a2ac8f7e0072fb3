use Rattle.std.proofs.Common.{refl, sym, subst, arith}
use Rattle.std.proofs.lemmas.Result.{err_from_is_err_and}
use Rattle.rules.specs.Sheets.{sheet}
use Rattle.file.specs.Format.{Holds}
use Rattle.file.proofs.Again.{windows_are}
use Rattle.reply.proofs.Planning.{file_refused}
use Rattle.reply.proofs.plan_file.plan_file.Goals as goal

pub returns-in_err-contents : goal.returns-in_err-contents
returns-in_err-contents c =
    let e = err_from_is_err_and c.from_residual.result c.from_residual.ensures.1 in
    rw (e.1, e.2) (file_refused c.args.file.now _ _ c.in_err-contents.field-0.0 (omega arith) (omega arith) c.in_err-contents.ensures.reads.0, refl)

pub returns : goal.returns
returns c =
    let file = c.args.file.now in
    let reads = c.in_ok-contents.ensures.reads in
    let (s, holds, _, tells) = reads.1 in
    let same = windows_are s file _ c.read.new.words c.in_ok-contents.contents holds reads in
    c.plan_lots.ensures file s.rules (subst (λ ws. Holds file (sheet ws s.rules)) (sym same) holds) tells.part
