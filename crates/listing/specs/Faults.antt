-- The number by which a house knows a refusal of the listing, its place, which is always 0, and how it reads.
use Rattle.std.specs.Prelude.{ℕ, List}
use Rattle.store.specs.Texts.{refused_text}
use Rattle.listing.specs.declared.fault.ListFault.{ListFault}
use Rattle.listing.specs.declared.fault.ListFault.TheVariants.{ShortBytes, TooManyLots}

abbrev pub number_of : ListFault → ℕ
number_of ShortBytes = 7
number_of TooManyLots = 20

abbrev pub place_of : ListFault → ℕ
place_of ShortBytes = 0
place_of TooManyLots = 0

abbrev pub fault_text : ListFault → List ℕ
fault_text fault = refused_text (number_of fault) (place_of fault)
