use Rattle.std.proofs.Common.{ap, arith}
use Rattle.std.proofs.lemmas.List.{length-take-le}
use Rattle.std.proofs.Math.Seq.{take-set-lt}
use Rattle.rules.specs.Sheets.{sheet}
use Rattle.propagation.specs.Problems.{sheet_in}
use Rattle.propagation.proofs.problem.Problem.put.Goals as goal

pub returns-clause-sheet : goal.returns-clause-sheet
returns-clause-sheet c =
    let p = c.args.self.now in
    ap (λ ws. sheet ws (sheet_in p).rules) (take-set-lt p.lots p.windows c.args.lot c.args.window
    (omega (arith, c.requires.there, length-take-le p.lots p.windows (omega (arith, p.few, p.room)))))
