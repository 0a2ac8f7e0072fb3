-- One text after another: the second is written to the rest of the bytes, which is lent from where the first ends.
use Rattle.std.proofs.Common.{◌≡◌, ℕ, ◌-◌, List, [], ◌++◌, length, take, drop, sym, ap, ◌∙◌, arith}
use borrow.Rule.Slice.PartMut.{post_of, put_mid}
use Rattle.std.proofs.lemmas.List.{append_assoc, append-nil, drop_all, drop_at, drop-drop, length-append, length-drop, take_at, take_rest}
use Rattle.store.specs.Over.{over}

-- `mid` is what stands after the first text, `rest` what the lent rest of it holds after the second
pub over_then :
    (a b was mid rest : List ℕ) (end : ℕ) → end ≡ length a → mid ≡ over a was → rest ≡ over b (take (length mid - end) (drop end mid))
    → put_mid end (length mid - end) mid rest ≡ over (a ++ b) was
over_then a b was mid rest end long first second =
    let past = drop (length a) was in
    let before : take end mid ≡ a = ap (take end) first ∙ take_at a past end (sym long) in
    let after : drop end mid ≡ past = ap (drop end) first ∙ drop_at a past end (sym long) in
    let lent : take (length mid - end) (drop end mid) ≡ past = take_rest mid end ∙ after in
    let none : post_of end (length mid - end) mid ≡ [] = drop_all (length mid - end) (drop end mid) (omega (arith, length-drop end mid)) in
    let put : rest ≡ b ++ drop (length (a ++ b)) was = second ∙ ap (λ xs. b ++ drop (length b) xs) lent
    ∙ ap (λ xs. b ++ xs) (drop-drop (length b) (length a) was ∙ ap (λ k. drop k was) (sym (length-append a b))) in
    ap (λ xs. xs ++ (rest ++ post_of end (length mid - end) mid)) before ∙ ap (λ xs. a ++ (rest ++ xs)) none
    ∙ ap (λ xs. a ++ xs) (append-nil rest ∙ put) ∙ sym (append_assoc a b (drop (length (a ++ b)) was))

pub lent_length : (xs : List ℕ) (end : ℕ) → length (take (length xs - end) (drop end xs)) ≡ length xs - end
lent_length xs end = ap length (take_rest xs end) ∙ length-drop end xs
