-- Writing over the front of lent memory.
use Rattle.std.specs.Prelude.{List, ◌++◌, length, drop}

-- these over the first entries; what stands past them stays
abbrev pub over : {X : Type 0} → List X → List X → List X
over xs was = xs ++ drop (length xs) was
