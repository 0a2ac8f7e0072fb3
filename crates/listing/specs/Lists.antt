-- What listing a plan gives, and writing the line of a refusal. A refusal writes nothing.
use Rattle.std.specs.Prelude.{◌≡◌, ℕ, ◌<◌, List, [], ◌∷◌, length, Result}
use Rattle.store.specs.Checks.{Checked, refuse}
use Rattle.store.specs.Over.{over}
use Rattle.listing.specs.declared.fault.ListFault.{ListFault}
use Rattle.listing.specs.declared.fault.ListFault.TheVariants.{ShortBytes, TooManyLots}
use Rattle.listing.specs.Text.{list_of, refusal_line}

-- the memory has so many bytes, and the text more
abbrev pub fits_check : List ℕ → ℕ → ListFault → Type 0
fits_check text room = refuse ShortBytes (room < length text)

abbrev pub list_checks : List ℕ → ℕ → List (ListFault → Type 0)
list_checks days room = refuse TooManyLots (256 < length days) ∷ fits_check (list_of days) room ∷ []

abbrev pub refusal_checks : ℕ → ℕ → ℕ → List (ListFault → Type 0)
refusal_checks number place room = fits_check (refusal_line number place) room ∷ []

-- the text stands over the first bytes, and the answer is its length
abbrev pub Written : List ℕ → List ℕ → List ℕ → ℕ → Type 0
Written text was is n = (n ≡ length text) × (is ≡ over text was)

abbrev pub Lists : List ℕ → List ℕ → Result ℕ ListFault → List ℕ → Type 0
Lists days was r is = Checked (list_checks days (length was)) r (Written (list_of days) was is) (is ≡ was)

abbrev pub WritesRefusal : ℕ → ℕ → List ℕ → Result ℕ ListFault → List ℕ → Type 0
WritesRefusal number place was r is =
    Checked (refusal_checks number place (length was)) r (Written (refusal_line number place) was is) (is ≡ was)
