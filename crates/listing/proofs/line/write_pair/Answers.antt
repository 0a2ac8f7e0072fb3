use Rattle.std.proofs.Common.{◌≡◌, ◌+◌, ◌-◌, [], ◌∷◌, ◌++◌, length, decimal, arith}
use borrow.Rule.Slice.PartMut.{put_mid}
use Rattle.std.proofs.lemmas.List.{length-append}
use Rattle.listing.specs.Text.{entry}
use Rattle.store.specs.Over.{over}
use Rattle.listing.proofs.Over.{over_then}
use Rattle.listing.proofs.line.write_pair.Goals as goal

pub returns-clause-written : goal.returns-clause-written
returns-clause-written c =
    let a = entry c.args.word.now c.args.m in
    let b = entry c.args.other.now c.args.n in
    let was = c.args.out.now in
    let first = c.write_entry-first.result in
    let mid = c.write_entry-first.new.out in
    let both = put_mid first (length mid - first) mid c.write_entry.new.out in
    let one = length-append c.args.word.now (decimal c.args.m) in
    let other = length-append c.args.other.now (decimal c.args.n) in
    let two : both ≡ over (a ++ b) was = over_then a b was mid c.write_entry.new.out first (omega arith) c.write_entry-first.ensures.written c.write_entry.ensures.written in
    over_then (a ++ b) (10 ∷ []) was both c.write_text.new.out (first + c.write_entry.result) (omega (arith, length-append a b)) two c.write_text.ensures.written
