-- What the decimal form of a number is.
use Rattle.std.proofs.Common.{ℕ, ◌^◌, ◌<◌, length, decimal, ap, ◌∙◌, arith}
use Rattle.std.proofs.lemmas.Fmt.{decimal_digit, decimal_is_IsNumeral, first_decimal, length-decimal-le}
use Rattle.std.proofs.lemmas.Int.Digits.{digits_value-lt}
use Rattle.decimal.specs.Laws.{Form}

pub decimal_form_lem : (n : ℕ) → n < 2 ^ 64 → Form n (decimal n)
decimal_form_lem n small =
    record {
      numeral = (decimal_is_IsNumeral n small).0;
      reads = (decimal_is_IsNumeral n small).1;
      shortest = λ es numeral same. length-decimal-le (length es) n numeral.0 (omega (arith, same, digits_value-lt 10 es numeral.1)) small;
      first = λ some. first_decimal n some small;
      nought = λ none. ap decimal none ∙ decimal_digit 0 (omega arith);
    }
