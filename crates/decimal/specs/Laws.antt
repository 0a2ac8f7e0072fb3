-- What the decimal form of a number is: its digits read as the number, and no fewer digits do.
-- It has no leading nought, and 0 is one digit.
use Rattle.std.specs.Prelude.{◌≡◌, ℕ, ◌^◌, ◌<◌, ◌≤◌, List, [], ◌∷◌, length, decimal, slice_index}
use Rattle.std.specs.Str.Parse.{IsNumeral, digits_value}

-- 48 is the byte of the digit 0
pub record Form (n : ℕ) (ds : List ℕ) : Type 0 where
  pub numeral : IsNumeral 10 ds
  pub reads : digits_value 10 ds ≡ n
  pub shortest : (es : List ℕ) → IsNumeral 10 es → digits_value 10 es ≡ n → length ds ≤ length es
  pub first : 0 < n → 48 < slice_index ds 0
  pub nought : n ≡ 0 → ds ≡ 48 ∷ []

abbrev pub DecimalForm : Type 0
DecimalForm = (n : ℕ) → n < 2 ^ 64 → Form n (decimal n)
