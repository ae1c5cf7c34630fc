-- The rules, 'Fields written': the numeral of width w, and what it stands for.
-- Assumes nothing.
use Rattle.std.specs.Prelude.{◌≡◌, false, List, [], ◌∷◌, ◌++◌, ℕ, ◌+◌, ◌<◌, length, replicate, ℤ, pos, neg_ℤ}
use Rattle.buffer.specs.Characters.{blank, plus_sign, minus_sign, decimal_point}
use Rattle.number.specs.Magnitude.{negative}
use Rattle.number.specs.Digits.{Digits, value}
use Rattle.settings.specs.declared.SignSetting.{SignSetting}
use Rattle.settings.specs.declared.SignSetting.TheVariants.{AfterSS, AfterSP}
use Rattle.field_written.specs.declared.Sign.{Sign}
use Rattle.field_written.specs.declared.Sign.TheVariants.{None, Plus, Minus}

-- the descriptor of a numeric field, its width aside: Iw, and Fw.d
pub data Numeric : Type 0 where
  I : Numeric
  F : ℕ → Numeric

-- how many digits follow the point: none for I, d for F
abbrev pub places : Numeric → ℕ
places I = 0
places (F d) = d

-- 'a point', for F
abbrev pub point : Numeric → List ℕ
point I = []
point (F d) = decimal_point ∷ []

-- '+ or − or no sign'
abbrev pub sign_bytes : Sign → List ℕ
sign_bytes None = []
sign_bytes Plus = plus_sign ∷ []
sign_bytes Minus = minus_sign ∷ []

-- 'negated after −'
abbrev pub signed : Sign → ℕ → ℤ
signed None m = pos m
signed Plus m = pos m
signed Minus m = neg_ℤ (pos m)

-- blanks, a sign, digits, and for F a point and digits
abbrev pub layout : Numeric → ℕ → Sign → List ℕ → List ℕ → List ℕ
layout f blanks sign whole fraction = replicate blanks blank ++ (sign_bytes sign ++ (whole ++ (point f ++ fraction)))

-- Whether a setting permits a numeral with this sign and these digits (the rules, 'Plus signs'): 'After SP, a numeral for a value of zero
-- or more must carry +; after SS or S the rule above holds', by which every numeral is permitted.
abbrev pub Permitted : SignSetting → Sign → List ℕ → List ℕ → Type 0
Permitted AfterSS sign whole fraction = Unit {0}
Permitted AfterSP sign whole fraction = negative (signed sign (value (whole ++ fraction))) ≡ false → sign ≡ Plus

-- Term 'numeral of width w', under a setting
pub record Numeral (g : SignSetting) (f : Numeric) (w : ℕ) : Type 0 where
  -- 'blanks or none, then + or − or no sign'
  pub blanks : ℕ
  pub sign : Sign
  -- 'then for I one or more digits; for F digits or none, a point, exactly d digits'
  pub whole : List ℕ
  pub fraction : List ℕ
  pub whole_digits : Digits whole
  pub fraction_digits : Digits fraction
  pub exactly : length fraction ≡ places f
  -- 'with at least one digit in all'
  pub some : 0 < length whole + length fraction
  pub permitted : Permitted g sign whole fraction
  -- 'is w characters'
  pub width : length (layout f blanks sign whole fraction) ≡ w

abbrev pub characters : {g : SignSetting} {f : Numeric} {w : ℕ} → Numeral g f w → List ℕ
characters {f = f} t = layout f t.blanks t.sign t.whole t.fraction

-- 'It stands for the whole number that its digits make without the point, divided by 10^d for F, and negated after −':
-- for F the number is given in units of 10^-d
abbrev pub stands_for : {g : SignSetting} {f : Numeric} {w : ℕ} → Numeral g f w → ℤ
stands_for t = signed t.sign (value (t.whole ++ t.fraction))
