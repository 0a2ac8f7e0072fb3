use Rattle.std.proofs.Common.{◌≡◌, ◌+◌, ◌-◌, ◌*◌, [], ◌∷◌, ◌++◌, length, set, take, drop, sym, ap, ◌∙◌, ap₂, arith, take-add}
use Rattle.std.proofs.ByRecursion.{All-push}
use Rattle.std.proofs.lemmas.List.{flat_map_more, length-take-le}
use Rattle.file.specs.Format.{lot_bytes, SmallLot}
use Rattle.file.proofs.Bytes.{join, length_lots}
use Rattle.file.proofs.Reading.{rewritten_more}
use Rattle.file.proofs.read.read_lots.Goals as goal

pub loop-lot-preserved : goal.loop-lot-preserved
loop-lot-preserved c =
    let lot = c.loop-lot.lot in
    let bytes = c.args.bytes.now in
    let (ws, same, small, words) = c.loop-lot.invariant in
    let w = c.read_lot-window.result in
    let next : take (4 * lot + 4 - 4 * lot) (drop (4 * lot) bytes) ≡ take 4 (drop (4 * lot) bytes) = ap (λ k. take k (drop (4 * lot) bytes)) (let k : 4 * lot + 4 - 4 * lot ≡ 4 = omega arith in k) in
    let far : take (4 * lot + 4) bytes ≡ take (4 * (lot + 1)) bytes = ap (λ k. take k bytes) (let k : 4 * lot + 4 ≡ 4 * (lot + 1) = omega arith in k) in
    let long : length ws ≡ lot = omega (arith, length_lots ws, ap length same, length-take-le (4 * lot) bytes (omega arith)) in (
      ws ++ w ∷ [],
      sym (flat_map_more lot_bytes [] ws w) ∙ join same (c.read_lot-window.ensures.bytes ∙ next) ∙ sym (take-add (4 * lot) 4 bytes) ∙ far,
      All-push SmallLot ws w small c.read_lot-window.ensures.small,
      ap₂ (λ n now'. set (set now' (2 * n) w.low) (2 * n + 1) w.high) (sym long) words ∙ rewritten_more c.args.words.now ws w (omega arith),
    )
