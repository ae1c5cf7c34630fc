-- What the theorems of proofs/Promises.antt say of the fields written.
-- Assumes nothing.
use Rattle.std.specs.Prelude.{◌≡◌, ◌↔◌, true, false, List, [], ◌∷◌, ℕ, ◌+◌, ◌≤◌, length, take, drop, replicate, ℤ, nat_abs}
use Rattle.buffer.specs.Characters.{asterisk, digit_zero}
use Rattle.buffer.specs.Splice.{splice}
use Rattle.number.specs.Limits.{largest}
use Rattle.number.specs.Rounding.{Nearest}
use Rattle.settings.specs.declared.SignSetting.{SignSetting}
use Rattle.settings.specs.declared.SignSetting.TheVariants.{AfterSS, AfterSP}
use Rattle.field_written.specs.declared.Sign.TheVariants.{None, Plus, Minus}
use Rattle.number.specs.Magnitude.{negative}
use Rattle.field_written.specs.Numeral.{Numeric, F, Numeral, characters, stands_for}
use Rattle.field_written.specs.Written.{sign_for, field, starred, put_decimal, decimal_part, after_decimal, put_refusal, put_starred}

-- a field has w characters
abbrev pub FieldLength : Type 0
FieldLength = (g : SignSetting) (f : Numeric) (w : ℕ) (n : ℤ) → length (field g f w n) ≡ w

-- 'A numeric field is starred when it puts w asterisks'
abbrev pub StarredIs : Type 0
StarredIs = (g : SignSetting) (f : Numeric) (w : ℕ) (n : ℤ) → (starred g f w n ≡ true) ↔ (field g f w n ≡ replicate w asterisk)

-- 'Stars and reading back' at one field: it is w asterisks exactly when no numeral of width w stands for the value
-- (n for I, the rounded units for F)
abbrev pub StarsExactlyWhen : Type 0
StarsExactlyWhen =
    (g : SignSetting) (f : Numeric) (w : ℕ) (n : ℤ) → (field g f w n ≡ replicate w asterisk) ↔ ((t : Numeral g f w) → stands_for t ≡ n → ⊥)

-- the sign of a field: − exactly below zero; else after SS, and S, none, so never +, and after SP +
abbrev pub SignIs : Type 0
SignIs =
    (n : ℤ) → ((g : SignSetting) → (sign_for g n ≡ Minus) ↔ (negative n ≡ true)) × (negative n ≡ false → (sign_for AfterSS n ≡ None) × (sign_for AfterSP n ≡ Plus))

-- what the rules say of the numeral that a field is: 'with − exactly for a value below zero after rounding, never +,
-- and no leading zero, except the only digit of an I and one zero before the point of an F with integer part 0 where a
-- column is free'; but after SP 'a numeral for a value of zero or more must carry +'
pub record AsWritten (g : SignSetting) (f : Numeric) (w : ℕ) (n : ℤ) (t : Numeral g f w) : Type 0 where
  pub stands : stands_for t ≡ n
  pub signed_so : t.sign ≡ sign_for g n
  -- a zero in front is the only digit before the point (for I: the only digit)
  pub no_leading_zero : (rest : List ℕ) → t.whole ≡ digit_zero ∷ rest → rest ≡ []
  -- there is a digit before the point where a blank stands in front
  pub zero_if_free : t.whole ≡ [] → t.blanks ≡ 0

-- a field that is not starred is a numeral of width w that stands for the value, written so
abbrev pub UnstarredIsNumeral : Type 0
UnstarredIsNumeral =
    (g : SignSetting) (f : Numeric) (w : ℕ) (n : ℤ) → starred g f w n ≡ false → (t : Numeral g f w) × (characters t ≡ field g f w n) × (AsWritten g f w n t)

-- and every numeral written so is the field
abbrev pub FieldOnly : Type 0
FieldOnly = (g : SignSetting) (f : Numeric) (w : ℕ) (n : ℤ) (t : Numeral g f w) → AsWritten g f w n t → characters t ≡ field g f w n

-- ---- the decimal u / 10^s under Fw.d, without the closed form of rounding

-- `after_decimal`, of which the promises below speak, is the buffer with the part that its field fills, as the code leaves it
abbrev pub DecimalPartOf : Type 0
DecimalPartOf =
    (g : SignSetting) (buffer : List ℕ) (at w d : ℕ) (u : ℤ) (s : ℕ) → at + w ≤ length buffer → after_decimal g buffer at w d u s ≡ splice buffer at (decimal_part g (take w (drop at buffer)) d u s)

-- refusal 11 exactly when the decimal rounded to d places is beyond the largest magnitude
abbrev pub DecimalRefusedWhen : Type 0
DecimalRefusedWhen =
    (g : SignSetting) (w d : ℕ) (u : ℤ) (s : ℕ) → (put_refusal (put_decimal g w d u s) ≡ 11) ↔ ((r : ℤ) → Nearest u s d r → nat_abs r ≤ largest → ⊥)

-- and then the buffer is as it was
abbrev pub DecimalRefusedLeaves : Type 0
DecimalRefusedLeaves =
    (g : SignSetting) (buffer : List ℕ) (at w d : ℕ) (u : ℤ) (s : ℕ) → put_refusal (put_decimal g w d u s) ≡ 11 → after_decimal g buffer at w d u s ≡ buffer

-- 'Stars and reading back' for F: where it is not refused, it is starred exactly when no numeral of width w stands for the decimal
-- rounded to d places
abbrev pub DecimalStarsExactlyWhen : Type 0
DecimalStarsExactlyWhen =
    (g : SignSetting) (w d : ℕ) (u : ℤ) (s : ℕ) → put_refusal (put_decimal g w d u s) ≡ 0 → (put_starred (put_decimal g w d u s) ≡ 1) ↔ ((t : Numeral g (F d) w) → Nearest u s d (stands_for t) → ⊥)

-- the field is then w asterisks
abbrev pub DecimalStarred : Type 0
DecimalStarred =
    (g : SignSetting) (buffer : List ℕ) (at w d : ℕ) (u : ℤ) (s : ℕ) → put_starred (put_decimal g w d u s) ≡ 1 → after_decimal g buffer at w d u s ≡ splice buffer at (replicate w asterisk)

-- and else the numeral that stands for it, as the rules have it
abbrev pub DecimalShown : Type 0
DecimalShown =
    (g : SignSetting) (buffer : List ℕ) (at w d : ℕ) (u : ℤ) (s : ℕ) → put_refusal (put_decimal g w d u s) ≡ 0 → put_starred (put_decimal g w d u s) ≡ 0 → (t : Numeral g (F d) w) × (after_decimal g buffer at w d u s ≡ splice buffer at (characters t)) × (Nearest u s d (stands_for t)) × (AsWritten g (F d) w (stands_for t) t)
