-- A number in two bytes, the low one first.
use Rattle.std.specs.Prelude.{ℕ, ◌/◌, ◌%◌, ◌<◌, List, [], ◌∷◌}

abbrev pub two : ℕ → List ℕ
two n = n % 256 ∷ n / 256 ∷ []

-- numbers that two bytes can hold
abbrev pub Small : ℕ → Type 0
Small n = n < 65536
