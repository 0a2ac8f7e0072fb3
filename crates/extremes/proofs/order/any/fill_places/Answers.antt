use Rattle.std.proofs.Common.{◌≡◌, ℕ, ◌+◌, ◌<◌, get_or, set, ap, ◌∙◌, subst, arith}
use Rattle.std.proofs.lemmas.List.Edits.{fill_by_more}
use Rattle.std.proofs.lemmas.List.{ext_get_or}
use Rattle.store.specs.Windows.{window_at}
use Rattle.extremes.specs.Orders.{slots}
use Rattle.extremes.proofs.Orders.{get_or_slots, length_slots}
use Rattle.extremes.proofs.order.any.fill_places.Goals as goal

pub loop-place-preserved : goal.loop-place-preserved
loop-place-preserved c =
    let ws = c.args.windows.now in
    let i = c.loop-place.place in
    let z : 0 + i ≡ i = omega arith in
    let value = get_or_slots 0 ws i (omega arith) ∙ ap (λ n. ((window_at ws i).high, n)) z in
    subst
    (λ v. (k : ℕ) → k < i + 1 → get_or (set c.loop-place.order i v) k (0, 0) ≡ get_or (slots 0 ws) k (0, 0))
    value
    (fill_by_more (λ k. get_or (slots 0 ws) k (0, 0)) c.loop-place.order i (0, 0) (omega arith) c.loop-place.invariant)

pub returns : goal.returns
returns c =
    ext_get_or (0, 0) _ _ (omega (arith, length_slots 0 c.args.windows.now)) (λ k h. c.loop-place.invariant k (omega (arith, length_slots 0 c.args.windows.now)))
