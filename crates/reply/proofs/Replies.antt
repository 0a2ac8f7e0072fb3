-- What dayplan prints, from planning the file and from writing the text.
use Rattle.std.proofs.Common.{◌≡◌, ℕ, ◌<◌, List, [], ◌∷◌, length, take, drop, Ok, Err, Result, sym, refl, ap, ◌∙◌, ap₂, arith}
use Rattle.std.proofs.lemmas.List.{take_at}
use Rattle.store.specs.Checks.{Checked, here, later}
use Rattle.nvalue.proofs.Choices.{choice_length}
use Rattle.file.specs.declared.fault.FileFault.{FileFault}
use Rattle.file.specs.Faults.{number_of, place_of}
use Rattle.listing.specs.declared.fault.ListFault.{ListFault}
use Rattle.listing.specs.Lists.{Lists, Written, WritesRefusal, fits_check}
use Rattle.listing.specs.Text.{list_of, refusal_line}
use Rattle.reply.specs.Files.{PlanOf, Refuses}
use Rattle.reply.specs.declared.reply.Replied.{Replied}
use Rattle.reply.specs.declared.reply.Replied.TheVariants.{Plan, Refusal}
use Rattle.reply.specs.Replies.{Replies, Text, plan, refusal}

-- the number of bytes that was answered, told as a plan or as a refusal
pub record Told (kind : ℕ → Replied) (r : Result ℕ ListFault) (s : Result Replied ListFault) : Type 0 where
  pub written : (k : ℕ) → r ≡ Ok k → s ≡ Ok (kind k)
  pub refused : (e : ListFault) → r ≡ Err e → s ≡ Err e

-- the first answer words of a file that was planned are its plan
pub days_in : (file was is : List ℕ) (n : ℕ) (p : PlanOf file was is n) → (take n is ≡ p.days) × (length p.days ≡ n)
days_in file was is n p =
    let long : length p.days ≡ n = choice_length p.s.windows p.days p.first.plan.choice ∙ sym p.many in
    (ap (take n) p.words ∙ take_at p.days (drop (length p.days) was) n long, long)

module _ (file out now' : List ℕ) (kind : ℕ → Replied) (text : List ℕ) (is_text : Text file text (kind (length text))) where
  -- the text of a file, written as such
  pub replied : (r : Result ℕ ListFault) (s : Result Replied ListFault) → Told kind r s
      → Checked (fits_check text (length out) ∷ []) r (Written text out now') (now' ≡ out) → Replies file out s now'
  replied (Ok k) s t (p, w) = rw (t.written k refl) (text, kind (length text), is_text, (p, (ap kind w.0, w.1)))
  replied (Err e) s t (r, w) = rw (t.refused e refl) (text, kind (length text), is_text, (r, w))

-- the list of the plan
pub list_replied : (file was is : List ℕ) (n : ℕ) (p : PlanOf file was is n) (out now' : List ℕ) (r : Result ℕ ListFault) (s : Result Replied ListFault)
    → Told Plan r s → Lists (take n is) out r now' → Replies file out s now'
list_replied file was is n p out now' r s t lists = replied file out now' Plan (list_of (take n is)) (plan p.s p.days p.accepted p.first (ap list_of (days_in file was is n p).0) refl) r s t (fitted r lists)
  where
    few : 256 < length (take n is) → ⊥
    few many = omega (arith, ap length (days_in file was is n p).0, (days_in file was is n p).1, p.many, p.accepted.holds.few_lots)

    fitted : (r : Result ℕ ListFault) → Lists (take n is) out r now' → Checked (fits_check (list_of (take n is)) (length out) ∷ []) r (Written (list_of (take n is)) out now') (now' ≡ out)
    fitted (Ok k) (p, w) = (p.1, w)
    fitted (Err e) (here many, w) = absurd (few many.0)
    fitted (Err e) (later _ q, w) = (q, w)

-- the line of the refusal
pub line_replied : (file : List ℕ) (e : FileFault) (number place : ℕ) → Refuses file 256 e → number ≡ number_of e → place ≡ place_of e → (out now' : List ℕ)
    (r : Result ℕ ListFault) (s : Result Replied ListFault) → Told Refusal r s → WritesRefusal number place out r now' → Replies file out s now'
line_replied file e number place why n p out now' r s t writes =
    let text = refusal_line number place in
    replied file out now' Refusal text (refusal e why (ap₂ refusal_line n p) refl) r s t writes
