-- What the host call gives for a file, and that it and dayplan say the same.
use Rattle.std.specs.Prelude.{◌≡◌, ℕ, ◌*◌, ◌/◌, ◌<◌, ◌≤◌, List, length, ◌≢◌}
use Rattle.std.specs.List.{flat_map}
use Rattle.store.specs.Over.{over}
use Rattle.rules.specs.Plans.{Earliest}
use Rattle.rules.specs.Sheets.{Sheet}
use Rattle.file.specs.Numbers.{two}
use Rattle.file.specs.declared.fault.FileFault.{FileFault}
use Rattle.file.specs.Faults.{number_of}
use Rattle.listing.specs.Text.{list_of, refusal_line}
use Rattle.reply.specs.declared.reply.Replied.{Replied}
use Rattle.reply.specs.declared.reply.Replied.TheVariants.{Plan, Refusal}
use Rattle.reply.specs.Files.{Accepted, Refuses}
use Rattle.reply.specs.Replies.{Text}

-- days as a host gets them: two bytes each, the low one first
abbrev pub days_bytes : List ℕ → List ℕ
days_bytes ds = flat_map two ds

-- 0 and the earliest plan over the first bytes of the output, or the number of the refusal that is met first; there is
-- room for a day in every two bytes
pub data Calls (file was : List ℕ) (number : ℕ) (is : List ℕ) : Type 0 where
  planned : (s : Sheet) (ds : List ℕ) → Accepted file s → Earliest s ds → 2 * length s.windows ≤ length was
      → number ≡ 0 → is ≡ over (days_bytes ds) was → Calls file was number is
  refused : (e : FileFault) → Refuses file (length was / 2) e → number ≡ number_of e → is ≡ was
      → Calls file was number is

-- The call beside the text that dayplan prints for the same file: both have the same plan, or the call answers the
-- number that stands in dayplan's line, or the output is too short.
pub data SaysSame (file was : List ℕ) (number : ℕ) (is : List ℕ) (text : List ℕ) (told : Replied) : Type 0 where
  both_plan : (ds : List ℕ) → told ≡ Plan (length text) → text ≡ list_of ds → number ≡ 0 → is ≡ over (days_bytes ds) was
      → SaysSame file was number is text told
  both_refuse : (place : ℕ) → told ≡ Refusal (length text) → text ≡ refusal_line number place → (number ≢ 0) → is ≡ was
      → SaysSame file was number is text told
  short_output : (s : Sheet) → Accepted file s → length was < 2 * length s.windows → number ≡ 7 → is ≡ was
      → SaysSame file was number is text told

-- the call agrees with dayplan's text, and a file has no other
abbrev pub AgreesWithDayplan : List ℕ → List ℕ → ℕ → List ℕ → Type 0
AgreesWithDayplan file was number is =
    (text : List ℕ) (told : Replied) → Text file text told → SaysSame file was number is text told
