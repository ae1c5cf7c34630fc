-- The rules, 'Fields written': the numeric field.
-- Assumes nothing.
use Rattle.std.specs.Prelude.{Bool, true, false, ◌&&◌, cond, List, ◌++◌, ℕ, ◌-◌, ◌/◌, ◌^◌, ltb, leb, eqb, length, replicate, ℤ, nat_abs, Result, Ok, Err}
use Rattle.buffer.specs.Characters.{blank, asterisk}
use Rattle.buffer.specs.Splice.{splice}
use Rattle.number.specs.Magnitude.{negative}
use Rattle.number.specs.Digits.{digits_of, digit_count}
use Rattle.number.specs.Rounding.{rounded_units, too_large, too_large_error}
use Rattle.field_written.specs.Numeral.{Numeric, F, places, layout}
use Rattle.settings.specs.declared.SignSetting.{SignSetting}
use Rattle.settings.specs.declared.SignSetting.TheVariants.{AfterSS, AfterSP}
use Rattle.field_written.specs.declared.Sign.{Sign}
use Rattle.field_written.specs.declared.Sign.TheVariants.{None, Plus, Minus}
use Rattle.number.specs.declared.TooLarge.{TooLarge}

-- ---- the text of a sign and a magnitude m, which for F counts units of 10^-d

-- how many digits stand before the point (for I: in all): 'no leading zero, except the only digit of an I and one zero
-- before the point of an F with integer part 0'
unfoldable pub most_digits : Numeric → ℕ → ℕ
most_digits f m = digit_count (m / 10 ^ places f)

-- the same where that zero before the point is left out, which needs a digit after the point
unfoldable pub fewest_digits : Numeric → ℕ → ℕ
fewest_digits f m = cond (ltb 0 (places f) && eqb (m / 10 ^ places f) 0) 0 (most_digits f m)

-- sign, k digits before the point, and the rest, without blanks
unfoldable pub numeral_text : Numeric → Sign → ℕ → ℕ → List ℕ
numeral_text f sign k m = layout f 0 sign (digits_of k (m / 10 ^ places f)) (digits_of (places f) m)

-- 'right justified'
abbrev pub justified : ℕ → List ℕ → List ℕ
justified w t = replicate (w - length t) blank ++ t

-- with the zero 'where a column is free', else without it, else 'w asterisks': the first that fits.
-- (The law `StarsExactlyWhen` of `Promises`: asterisks exactly 'if no numeral of width w stands for the value'.)
unfoldable pub field_text : Numeric → ℕ → Sign → ℕ → List ℕ
field_text f w sign m =
    cond (leb (length (numeral_text f sign (most_digits f m) m)) w) (justified w (numeral_text f sign (most_digits f m) m))
    (cond (leb (length (numeral_text f sign (fewest_digits f m) m)) w) (justified w (numeral_text f sign (fewest_digits f m) m)) (replicate w asterisk))

-- the columns that the shortest text takes
unfoldable pub fewest_columns : Numeric → Sign → ℕ → ℕ
fewest_columns f sign m = length (numeral_text f sign (fewest_digits f m) m)

-- ---- the field of a value: n for I, the rounded units for F

-- the sign of a value that is below zero, or not
abbrev pub sign_if : SignSetting → Bool → Sign
sign_if g true = Minus
sign_if AfterSS false = None
sign_if AfterSP false = Plus

-- 'with − exactly for a value below zero after rounding'; else after SS and S no sign ('never +'), after SP +
abbrev pub sign_for : SignSetting → ℤ → Sign
sign_for g n = sign_if g (negative n)

-- Term 'numeric field'
unfoldable pub field : SignSetting → Numeric → ℕ → ℤ → List ℕ
field g f w n = field_text f w (sign_for g n) (nat_abs n)

-- Term 'starred': no text fits, so that the field is w asterisks (the law `StarredIs` of `Promises`)
unfoldable pub starred : SignSetting → Numeric → ℕ → ℤ → Bool
starred g f w n = ltb w (fewest_columns f (sign_for g n) (nat_abs n))

-- ---- the decimal u / 10^s under Fw.d

-- its field, 'the decimal rounded to d places for F'
abbrev pub decimal_field : SignSetting → ℕ → ℕ → ℤ → ℕ → List ℕ
decimal_field g w d u s = field g (F d) w (rounded_units u s d)

-- the answer of writing it: whether the field is starred
unfoldable pub put_decimal : SignSetting → ℕ → ℕ → ℤ → ℕ → Result Bool TooLarge
put_decimal g w d u s =
    cond (too_large u s d) (Err too_large_error) (Ok (starred g (F d) w (rounded_units u s d)))

-- the part of the buffer that its field fills; refused, it is as it was
unfoldable pub decimal_part : SignSetting → List ℕ → ℕ → ℤ → ℕ → List ℕ
decimal_part g part d u s = cond (too_large u s d) part (decimal_field g (length part) d u s)

-- the buffer after writing it from offset at on; refused, it is as it was
unfoldable pub after_decimal : SignSetting → List ℕ → ℕ → ℕ → ℕ → ℤ → ℕ → List ℕ
after_decimal g buffer at w d u s = cond (too_large u s d) buffer (splice buffer at (decimal_field g w d u s))

-- what an answer means: the refusal's number in 'Checks by place', 0 for none, and the number of starred fields
abbrev pub put_refusal : Result Bool TooLarge → ℕ
put_refusal (Ok b) = 0
put_refusal (Err e) = 11

abbrev pub put_starred : Result Bool TooLarge → ℕ
put_starred (Ok true) = 1
put_starred (Ok false) = 0
put_starred (Err e) = 0
