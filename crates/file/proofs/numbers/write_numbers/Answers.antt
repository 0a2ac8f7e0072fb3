use Rattle.std.proofs.Common.{◌≡◌, ◌+◌, ◌*◌, ◌/◌, ◌%◌, ◌<◌, [], ◌∷◌, length, get_or, ap, ◌∙◌, arith}
use Rattle.std.proofs.ByRecursion.{All-get_or}
use Rattle.file.specs.Numbers.{two, Small}
use Rattle.file.proofs.Bytes.{record_written}
use Rattle.file.proofs.numbers.write_numbers.Goals as goal

pub loop-place-preserved : goal.loop-place-preserved
loop-place-preserved c =
    let i = c.loop-place.place in
    let n = get_or c.args.words.now i 0 in
    let small : n < 65536 = All-get_or Small c.args.words.now i 0 (omega arith) c.requires.small in
    let pair : c.copy_from_slice.new.self ≡ two n =
    c.copy_from_slice.ensures.after ∙ c.to_le_bytes-pair.ensures ∙ ap (λ high. n % 256 ∷ high ∷ []) (let e : n / 256 % 256 ≡ n / 256 = omega arith in e) in
    record_written two c.args.words.now 0 i (2 * i) (2 * (i + 1)) _ c.loop-place.bytes c.copy_from_slice.new.self (omega arith) (omega arith) (omega (arith, ap length pair)) c.loop-place.invariant pair
