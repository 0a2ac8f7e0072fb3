-- What dayplan prints for a file: the list of the earliest plan, or the one line of the refusal that is met first.
use Rattle.std.specs.Prelude.{◌≡◌, ℕ, List, [], ◌∷◌, length, Result}
use Rattle.store.specs.Checks.{Checked}
use Rattle.store.specs.Over.{over}
use Rattle.rules.specs.Plans.{Earliest}
use Rattle.rules.specs.Sheets.{Sheet}
use Rattle.file.specs.declared.fault.FileFault.{FileFault}
use Rattle.file.specs.Faults.{number_of, place_of}
use Rattle.listing.specs.declared.fault.ListFault.{ListFault}
use Rattle.listing.specs.Lists.{fits_check}
use Rattle.listing.specs.Text.{list_of, refusal_line}
use Rattle.reply.specs.declared.reply.Replied.{Replied}
use Rattle.reply.specs.declared.reply.Replied.TheVariants.{Plan, Refusal}
use Rattle.reply.specs.Files.{Accepted, Refuses}

-- the text for a file, and what it is told as; no sheet has more than 256 lots, so there is room for every plan
pub data Text (file : List ℕ) (text : List ℕ) (told : Replied) : Type 0 where
  plan : (s : Sheet) (ds : List ℕ) → Accepted file s → Earliest s ds → text ≡ list_of ds → told ≡ Plan (length text)
      → Text file text told
  refusal : (e : FileFault) → Refuses file 256 e → text ≡ refusal_line (number_of e) (place_of e)
      → told ≡ Refusal (length text) → Text file text told

-- a file has just one text
abbrev pub OneText : List ℕ → Type 0
OneText file =
    (text other : List ℕ) (told told' : Replied) → Text file text told → Text file other told'
    → (text ≡ other) × (told ≡ told')

-- the text over the first bytes where it fits there
abbrev pub Replies : List ℕ → List ℕ → Result Replied ListFault → List ℕ → Type 0
Replies file was r is =
    (text : List ℕ) × (told : Replied) × Text file text told
    × Checked (fits_check text (length was) ∷ []) r (λ answer. (answer ≡ told) × (is ≡ over text was)) (is ≡ was)
