-- The number by which a house knows a refusal, and the lot or the rule that it names: 0 where it names none.
use Rattle.std.specs.Prelude.{ℕ, List, Ok, Err, Result}
use Rattle.store.specs.Texts.{refused_text}
use Rattle.store.specs.declared.fault.StoreFault.{StoreFault}
use Rattle.store.specs.declared.fault.StoreFault.TheVariants.{NoSuchLot, WouldEmpty}
use Rattle.nvalue.specs.declared.season.SeasonFault.{SeasonFault}
use Rattle.nvalue.specs.declared.season.SeasonFault.TheVariants.{TooManyLots as TooMany, FaultyWindow as Faulty}
use Rattle.sheet.specs.declared.fault.SheetFault.{SheetFault}
use Rattle.sheet.specs.declared.fault.StoreRefusal.{StoreRefusal}
use Rattle.sheet.specs.declared.fault.SheetFault.TheVariants.{Store, NoSuchDay, NoSuchStretch, NoSuchCount, NoSuchRule, ShortWork, ShortAnswer, TooManyLots, FaultyWindow, BookFull, NoCountLeft, NoFirmWindows, NoPlan, Mismatch}

-- what a store answered about a lot: its refusal comes whole, and with the lot
abbrev pub at_lot : ℕ → Result (Unit {0}) StoreFault → Result (Unit {0}) StoreRefusal
at_lot lot (Ok done) = Ok done
at_lot lot (Err fault) = Err (record { lot = lot; fault = fault })

abbrev pub number_of_store : StoreFault → ℕ
number_of_store NoSuchLot = 1
number_of_store WouldEmpty = 23

abbrev pub number_of : SheetFault → ℕ
number_of (Store refusal) = number_of_store refusal.fault
number_of NoSuchDay = 2
number_of NoSuchStretch = 3
number_of NoSuchCount = 4
number_of (NoSuchRule rule) = 5
number_of ShortWork = 6
number_of ShortAnswer = 7
number_of TooManyLots = 20
number_of (FaultyWindow lot) = 21
number_of BookFull = 22
number_of (NoCountLeft rule) = 24
number_of NoFirmWindows = 25
number_of NoPlan = 26
number_of Mismatch = 27

abbrev pub place_of : SheetFault → ℕ
place_of (Store refusal) = refusal.lot
place_of NoSuchDay = 0
place_of NoSuchStretch = 0
place_of NoSuchCount = 0
place_of (NoSuchRule rule) = rule
place_of ShortWork = 0
place_of ShortAnswer = 0
place_of TooManyLots = 0
place_of (FaultyWindow lot) = lot
place_of BookFull = 0
place_of (NoCountLeft rule) = rule
place_of NoFirmWindows = 0
place_of NoPlan = 0
place_of Mismatch = 0

abbrev pub fault_text : SheetFault → List ℕ
fault_text fault = refused_text (number_of fault) (place_of fault)

-- windows that make no season are refused for the same reason
abbrev pub of_season : SeasonFault → SheetFault
of_season TooMany = TooManyLots
of_season (Faulty lot) = FaultyWindow lot
