-- The text that a reply wrote stands at the front of its memory.
use Rattle.std.proofs.Common.{◌≡◌, ℕ, ◌≤◌, ◌⊎◌, List, length, take, drop, Ok, Err, sym, ap, ◌∙◌, subst, inl, inr, arith}
use Rattle.std.proofs.lemmas.List.{take_at}
use Rattle.store.specs.Checks.{here, later}
use Rattle.listing.specs.declared.fault.ListFault.{ListFault}
use Rattle.reply.specs.declared.reply.Replied.{Replied}
use Rattle.reply.specs.declared.reply.Replied.TheVariants.{Plan, Refusal}
use Rattle.reply.specs.Replies as replies
use Rattle.reply.specs.Replies.{Replies, Text}
use Rattle.console.proofs.Room.{text_short}

pub always_fits : (file was is : List ℕ) (e : ListFault) → 8192 ≤ length was → Replies file was (Err e) is → ⊥
always_fits file was is e room (text, told, t, (here h, _)) = omega (arith, h.0, text_short file text told t)
always_fits file was is e room (text, told, t, (later _ n, _)) = n

-- a text is told with its length
told_length : (file text : List ℕ) (told : Replied) (n : ℕ) → (told ≡ Plan n) ⊎ (told ≡ Refusal n) → Text file text told → length text ≡ n
told_length file text told n (inl e) (replies.Text.plan _ _ _ _ _ t) = cc
told_length file text told n (inl e) (replies.Text.refusal _ _ _ t) = cc
told_length file text told n (inr e) (replies.Text.plan _ _ _ _ _ t) = cc
told_length file text told n (inr e) (replies.Text.refusal _ _ _ t) = cc

pub text_stands : (file was is : List ℕ) (told : Replied) (n : ℕ) → (told ≡ Plan n) ⊎ (told ≡ Refusal n) → Replies file was (Ok told) is → Text file (take n is) told
text_stands file was is told n kind (text, told', t, (_, (same, written))) =
    let mine : Text file text told = subst (Text file text) (sym same) t in
    let front : take n is ≡ text = ap (take n) written ∙ take_at text (drop (length text) was) n (told_length file text told n kind mine) in
    subst (λ xs. Text file xs told) (sym front) mine
