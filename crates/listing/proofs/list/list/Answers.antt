use Rattle.std.proofs.Common.{◌++◌, length, ap, ◌∙◌, arith, rules}
use Rattle.std.proofs.lemmas.List.{length-append}
use Rattle.store.specs.Over.{over}
use Rattle.listing.specs.Text.{count_line, lines_from}
use Rattle.listing.proofs.Over.{over_then}
use Rattle.listing.proofs.list.list.Goals as goal

pub returns : goal.returns
returns c =
    let lines = lines_from 0 c.args.days.now in
    let count = c.different_days-count.result in
    let end = c.write_lots-end in
    let made = over_then lines (count_line count) c.args.out.now end.new.out c.write_count.new.out end.result end.ensures.long end.ensures.written c.write_count.ensures.written in
    let same = ap (λ n. lines ++ count_line n) c.different_days-count.ensures.value in
    let both = length-append lines (count_line count) in (
      search rules,
      (omega (arith, end.ensures.long, c.write_count.ensures.long, both, ap length same), made ∙ ap (λ text. over text c.args.out.now) same),
    )
