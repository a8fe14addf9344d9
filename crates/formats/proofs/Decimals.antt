-- `decimal` gives each number of 64 bits in decimal digits, and how many of them there are.
use Rattle.std.proofs.Common.{◌≡◌, ℕ, ◌+◌, ◌/◌, ◌%◌, ◌^◌, ◌<◌, ◌≤◌, length, decimal, ap, ◌∙◌, inl, inr, arith, lit<, rules}
use Rattle.std.specs.List.{AllByRecursion}
use Rattle.std.proofs.lemmas.List.{length_push}
use Rattle.std.proofs.lemmas.Str.Parse.{IsNumeralModel, numerals_by_fold}
use Rattle.std.proofs.lemmas.Fmt.{decimal_digit, decimal_step, decimal_nonempty, length-decimal-le, digits_decimal, digits_value-decimal, first_decimal}
use Rattle.std.proofs.lemmas.Bool.{cases_lt}
use Rattle.formats.specs.Decimals.{said, Decimals}

-- a number below ten has one digit
pub length_decimal_digit : (n : ℕ) → n < 10 → length (decimal n) ≡ 1
length_decimal_digit n l = ap length (decimal_digit n l)

-- any other number has one digit more than its tenth
pub length_decimal_step : (n : ℕ) → 10 ≤ n → n < 2 ^ 64 → length (decimal n) ≡ length (decimal (n / 10)) + 1
length_decimal_step n ten l = ap length (decimal_step n ten l) ∙ length_push (decimal (n / 10)) (48 + n % 10)

-- a number of 64 bits has at most 20
pub length_decimal_most : (n : ℕ) → n < 2 ^ 64 → length (decimal n) ≤ 20
length_decimal_most n l = length-decimal-le 20 n (lit< tt) (omega arith) l

-- the digits are those of the library, and so is the number that they say
own : IsNumeralModel (λ ds. AllByRecursion (λ d. (48 ≤ d) × (d ≤ 57)) ds) (said 0)
own = numerals_by_fold _ (search rules) said (search rules)

pub decimals : Decimals
decimals n l = record {
  all_digits = digits_decimal own n l;
  says = digits_value-decimal own n l;
  some = decimal_nonempty n l;
  no_leading_zero = λ e. elim (cases_lt 0 n) [
    | inl some ↦ absurd (omega (arith, first_decimal n some l))
    | inr none ↦ length_decimal_digit n (omega arith)
  ];
}
