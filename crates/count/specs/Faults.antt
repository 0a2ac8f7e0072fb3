-- The number by which a house knows a refusal, and the place that it names: 0 where it names none.
use Rattle.std.specs.Prelude.{ℕ, List, ◌++◌, codes, decimal}
use Rattle.count.specs.declared.fault.CountFault.{CountFault}
use Rattle.count.specs.declared.fault.CountFault.TheVariants.{ShortWork, TooManyLots, FaultyWindow, NoSuchStretch, ShortAnswer}
use Rattle.nvalue.specs.declared.season.SeasonFault.{SeasonFault}
use Rattle.nvalue.specs.declared.season.SeasonFault.TheVariants.{TooManyLots as TooMany, FaultyWindow as Faulty}

abbrev pub number_of : CountFault → ℕ
number_of ShortWork = 6
number_of TooManyLots = 20
number_of (FaultyWindow place) = 21
number_of NoSuchStretch = 3
number_of ShortAnswer = 7

abbrev pub place_of : CountFault → ℕ
place_of ShortWork = 0
place_of TooManyLots = 0
place_of (FaultyWindow place) = place
place_of NoSuchStretch = 0
place_of ShortAnswer = 0

-- `refused R place P`
abbrev pub fault_text : CountFault → List ℕ
fault_text fault = codes "refused " ++ decimal (number_of fault) ++ codes " place " ++ decimal (place_of fault)

-- windows that make no season are refused for the same reason
abbrev pub of_season : SeasonFault → CountFault
of_season TooMany = TooManyLots
of_season (Faulty place) = FaultyWindow place
