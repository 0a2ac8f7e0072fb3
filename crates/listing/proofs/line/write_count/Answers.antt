use Rattle.std.proofs.Common.{[], ◌∷◌, codes, decimal, arith}
use Rattle.std.proofs.lemmas.List.{length-append}
use Rattle.listing.specs.Text.{entry}
use Rattle.listing.proofs.Over.{over_then}
use Rattle.listing.proofs.line.write_count.Goals as goal

pub returns-clause-written : goal.returns-clause-written
returns-clause-written c =
    over_then (entry (codes "days ") c.args.count) (10 ∷ []) c.args.out.now c.write_entry-end.new.out c.write_text.new.out c.write_entry-end.result
    (omega (arith, length-append (codes "days ") (decimal c.args.count))) c.write_entry-end.ensures.written c.write_text.ensures.written
