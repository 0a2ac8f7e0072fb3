-- The lines of a plan, one more at the end.
use Rattle.std.proofs.Common.{◌≡◌, ℕ, suc, ◌+◌, ◌<◌, ◌≤◌, List, [], ◌∷◌, ◌++◌, length, get_or, take, drop, sym, refl, ap, ◌∙◌, arith}
use Rattle.std.proofs.lemmas.List.{append_assoc, append-nil, length-append, length-take-le, take-append-drop, take_more}
use Rattle.listing.specs.Text.{lines_from, lot_line}

pub lines_none : (lot : ℕ) → lines_from lot [] ≡ []
unfolding lines_from
lines_none lot = refl

pub lines_append : (lot : ℕ) (xs ys : List ℕ) (next : ℕ) → lot + length xs ≡ next → lines_from lot (xs ++ ys) ≡ lines_from lot xs ++ lines_from next ys
unfolding lines_from
lines_append lot [] ys next e = let z : lot ≡ next = omega arith in ap (λ n. lines_from n ys) z
lines_append lot (x ∷ xs) ys next e =
    ap (λ ls. lot_line lot x ++ ls) (lines_append (suc lot) xs ys next (omega arith)) ∙ sym (append_assoc (lot_line lot x) (lines_from (suc lot) xs) (lines_from next ys))

pub lines_one : (lot day : ℕ) → lines_from lot (day ∷ []) ≡ lot_line lot day
unfolding lines_from
lines_one lot day = append-nil (lot_line lot day)

-- the line of the lot i comes after those of the lots before it
pub lines_more : (days : List ℕ) (i : ℕ) → i < length days → lines_from 0 (take (i + 1) days) ≡ lines_from 0 (take i days) ++ lot_line i (get_or days i 0)
lines_more days i b =
    ap (lines_from 0) (take_more days i 0 b) ∙ lines_append 0 (take i days) (get_or days i 0 ∷ []) i (omega (arith, length-take-le i days (omega arith)))
    ∙ ap (λ ls. lines_from 0 (take i days) ++ ls) (lines_one i (get_or days i 0))

pub lines_more_length : (days : List ℕ) (i : ℕ) → i < length days → length (lines_from 0 (take (i + 1) days)) ≡ length (lines_from 0 (take i days)) + length (lot_line i (get_or days i 0))
lines_more_length days i b = ap length (lines_more days i b) ∙ length-append (lines_from 0 (take i days)) (lot_line i (get_or days i 0))

-- the first lines are no longer than all of them
pub lines_front : (days : List ℕ) (i : ℕ) → i ≤ length days → length (lines_from 0 (take i days)) ≤ length (lines_from 0 days)
lines_front days i b =
    let front = lines_from 0 (take i days) in
    let all : lines_from 0 days ≡ front ++ lines_from i (drop i days) = ap (lines_from 0) (sym (take-append-drop i days)) ∙ lines_append 0 (take i days) (drop i days) i (omega (arith, length-take-le i days b)) in
    omega (arith, ap length all, length-append front (lines_from i (drop i days)))

-- so there is room for the line of the lot i
pub lines_room : (days : List ℕ) (i : ℕ) → i < length days → length (lines_from 0 (take i days)) + length (lot_line i (get_or days i 0)) ≤ length (lines_from 0 days)
lines_room days i b = omega (arith, lines_more_length days i b, lines_front days (i + 1) (omega arith))
