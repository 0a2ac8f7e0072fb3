-- Bytes that a read put behind those that were read before.
use Rattle.std.proofs.Common.{◌≡◌, ℕ, ◌+◌, ◌≤◌, ◌⊎◌, List, ◌++◌, length, take, drop, None, Some, Option, sym, ap, ◌∙◌, inl, inr}
use borrow.Rule.Slice.PartMut.{post_of, put_mid}
use Rattle.std.proofs.Math.Seq.{take-append-add}
use Rattle.std.proofs.lemmas.List.{append-nil, drop_all, drop_at, length-take-le, take-append-le, take_all, take_at}
use Rattle.std.specs.Io.KnownBytes.{Consumes, IsAtEnd}
use Rattle.console.specs.Streams.{ReadsFirst}

pub filled_more : (a n k : ℕ) (xs ys : List ℕ) → a ≤ length xs → n ≤ length ys → take (a + n) (put_mid a k xs ys) ≡ take a xs ++ take n ys
filled_more a n k xs ys h m =
    ap (λ l. take (l + n) (put_mid a k xs ys)) (sym (length-take-le a xs h)) ∙ take-append-add (take a xs) (ys ++ post_of a k xs) n
    ∙ ap (λ zs. take a xs ++ zs) (take-append-le n ys (post_of a k xs) m)

-- bytes that were read up to the limit, or to the end, are the first
pub reads_first : (limit : ℕ) (was is : Option (List ℕ)) (bytes : List ℕ) → length bytes ≤ limit → (length bytes ≡ limit) ⊎ IsAtEnd is → Consumes was is bytes
    → ReadsFirst limit was is bytes
reads_first limit None is bytes few end took = tt
reads_first limit (Some all) None bytes few end took = absurd took
reads_first limit (Some all) (Some left) bytes few (inl full) took =
    (sym (ap (take limit) took ∙ take_at bytes left limit full), ap Some (sym (ap (drop limit) took ∙ drop_at bytes left limit full)))
reads_first limit (Some all) (Some left) bytes few (inr none) took =
    let same : all ≡ bytes = took ∙ ap (λ l. bytes ++ l) none ∙ append-nil bytes in
    (sym (ap (take limit) same ∙ take_all limit bytes few), ap Some (none ∙ sym (ap (drop limit) same ∙ drop_all limit bytes few)))
