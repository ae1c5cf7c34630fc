-- What the theorems of proofs/Promises.antt say of the fields read.
-- Assumes nothing.
use Rattle.std.specs.Prelude.{◌≡◌, ◌↔◌, Bool, true, false, cond, List, [], ◌∷◌, ◌++◌, ℕ, ◌<◌, ◌≤◌, length, replicate, ℤ, pos, nat_abs, Some}
use Rattle.buffer.specs.Characters.{blank, asterisk, decimal_point, all_printable}
use Rattle.number.specs.Limits.{largest, most_places}
use Rattle.number.specs.Digits.{Digits, value}
use Rattle.settings.specs.declared.SignSetting.{SignSetting}
use Rattle.field_written.specs.Numeral.{Numeric, I, F, places, sign_bytes, signed, Numeral, characters, stands_for}
use Rattle.field_written.specs.declared.Sign.{Sign}
use Rattle.field_written.specs.Written.{field, starred, decimal_field, put_decimal, put_refusal, put_starred}
use Rattle.field_written.specs.LogicalField.{letter, logical_field}
use Rattle.field_written.specs.TextField.{text_field}
use Rattle.field_read.specs.Read.{number, unblanked, read_field, read_refusal, Gives, shown_integer, shown_units, shown_places}
use Rattle.field_read.specs.LogicalRead.{logical_read}
use Rattle.field_read.specs.TextRead.{text_readable, text_read, shown_text}

-- What the field t spells under I or under F: a number's units and its places (0 for I).
pub data SpellsNumber (t : List ℕ) : Numeric → ℤ → ℕ → Type 0 where
  -- 'drop all blanks; nothing left means 0 (for F with d places)'
  nothing_left : {f : Numeric} → unblanked t ≡ [] → SpellsNumber t f (pos 0) (places f)
  -- 'optional sign, one or more digits'; for F, 'without [a point], places is d'
  without_point :
      {f : Numeric} (sign : Sign) (digits : List ℕ) → unblanked t ≡ sign_bytes sign ++ digits → 1 ≤ length digits → Digits digits → value digits ≤ largest → SpellsNumber t f (signed sign (value digits)) (places f)
  -- 'F: optional sign, digits with at most one point, at least one digit; with a point, places is the count after it, at most 9'.
  -- Both: 'magnitude of n or units at most 10^18 − 1'.
  with_point :
      {d : ℕ} (sign : Sign) (whole fraction : List ℕ) → unblanked t ≡ sign_bytes sign ++ (whole ++ (decimal_point ∷ fraction)) → 1 ≤ length (whole ++ fraction) → Digits whole → Digits fraction → length fraction ≤ most_places → value (whole ++ fraction) ≤ largest → SpellsNumber t (F d) (signed sign (value (whole ++ fraction))) (length fraction)

-- a field is read as u with p places exactly when it so spells it
abbrev pub NumberReadIs : Type 0
NumberReadIs = (f : Numeric) (t : List ℕ) (u : ℤ) (p : ℕ) → (read_field f t ≡ number u p) ↔ SpellsNumber t f u p

-- every numeral of width w, within the limits, reads back as the number that it stands for, under F with d places
abbrev pub NumeralReads : Type 0
NumeralReads =
    (g : SignSetting) (f : Numeric) (w : ℕ) (t : Numeral g f w) → places f ≤ most_places → nat_abs (stands_for t) ≤ largest → Gives (read_field f (characters t)) (stands_for t) (places f)

-- an integer's field that is not starred reads back as the shown value
abbrev pub IntegerReadsBack : Type 0
IntegerReadsBack =
    (g : SignSetting) (w : ℕ) (n : ℤ) → nat_abs n ≤ largest → starred g I w n ≡ false → Gives (read_field I (field g I w n)) (shown_integer n) 0

-- and so does the field of a decimal u / 10^s under Fw.d that is neither refused nor starred
abbrev pub DecimalReadsBack : Type 0
DecimalReadsBack =
    (g : SignSetting) (w d : ℕ) (u : ℤ) (s : ℕ) → d ≤ most_places → put_refusal (put_decimal g w d u s) ≡ 0 → put_starred (put_decimal g w d u s) ≡ 0 → Gives (read_field (F d) (decimal_field g w d u s)) (shown_units u s d) (shown_places u s d)

-- w asterisks are refusal 12
abbrev pub StarsRefused : Type 0
StarsRefused = (f : Numeric) (w : ℕ) → 0 < w → read_refusal (read_field f (replicate w asterisk)) ≡ 12

-- ---- logicals

-- 'blanks or none, an optional period, T or F, then anything'
pub record SpellsLogical (t : List ℕ) (b : Bool) : Type 0 where
  pub blanks : ℕ
  pub period : Bool
  pub rest : List ℕ
  pub is : t ≡ replicate blanks blank ++ cond period (decimal_point ∷ []) [] ++ letter b ∷ rest

-- a field is read as b exactly when it is so spelled
abbrev pub LogicalReadIs : Type 0
LogicalReadIs = (t : List ℕ) (b : Bool) → (logical_read t ≡ Some b) ↔ SpellsLogical t b

-- the field of a logical reads back
abbrev pub LogicalReadsBack : Type 0
LogicalReadsBack = (w : ℕ) (b : Bool) → 1 ≤ w → logical_read (logical_field w b) ≡ Some b

-- ---- texts

-- a text that is read has the length wanted
abbrev pub TextReadLength : Type 0
TextReadLength = (m : ℕ) (t : List ℕ) → length (text_read m t) ≡ m

-- the field of a text within its limits is readable, and reads back as the shown value
abbrev pub TextReadsBack : Type 0
TextReadsBack =
    (w : ℕ) (text : List ℕ) → all_printable text ≡ true → (text_readable (text_field w text) ≡ true) × (text_read (length text) (text_field w text) ≡ shown_text w text)
