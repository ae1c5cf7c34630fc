-- The rules, 'Fields read': I and F, and the shown value.
-- Assumes nothing.
use Rattle.std.specs.Prelude.{◌≡◌, ◌&&◌, cond, List, [], ◌∷◌, ◌++◌, ℕ, ltb, leb, eqb, length, drop, ℤ, pos, Option, Some, None}
use Rattle.buffer.specs.Characters.{blank, plus_sign, minus_sign, decimal_point}
use Rattle.number.specs.Limits.{largest, most_places}
use Rattle.number.specs.Digits.{all_digits, value}
use Rattle.number.specs.Rounding.{rounded_units}
use Rattle.field_written.specs.Numeral.{Numeric, I, F, places, sign_bytes, signed}
use Rattle.field_written.specs.declared.Sign.{Sign}
use Rattle.field_written.specs.declared.Sign.TheVariants.{None as NoSign, Plus, Minus}
use Rattle.field_read.specs.declared.Number.{Number}

-- the answer that is a number
abbrev pub number : ℤ → ℕ → Option Number
number u p = Some (record { units = u; places = p })

-- 'For I and F drop all blanks'
unfoldable pub unblanked : List ℕ → List ℕ
unblanked [] = []
unblanked (x ∷ xs) = cond (eqb x blank) (unblanked xs) (x ∷ unblanked xs)

-- 'optional sign': the sign in front, and what stands after it
abbrev pub sign_of : List ℕ → Sign
sign_of [] = NoSign
sign_of (x ∷ xs) = cond (eqb x plus_sign) Plus (cond (eqb x minus_sign) Minus NoSign)

abbrev pub after_sign : List ℕ → List ℕ
after_sign t = drop (length (sign_bytes (sign_of t))) t

-- what stands before the first point
unfoldable pub before_point : List ℕ → List ℕ
before_point [] = []
before_point (x ∷ xs) = cond (eqb x decimal_point) [] (x ∷ before_point xs)

-- the first point and what stands after it; nothing without a point
unfoldable pub from_point : List ℕ → List ℕ
from_point [] = []
from_point (x ∷ xs) = cond (eqb x decimal_point) (x ∷ xs) (from_point xs)

-- the number with p places that the digits before and after a point make: digits and nothing else, 'at least one digit',
-- the count after the point 'at most 9', 'magnitude of n or units at most 10^18 − 1'; else it is refused
unfoldable pub number_read : Sign → ℕ → List ℕ → List ℕ → Option Number
number_read sign p whole fraction =
    cond (ltb 0 (length (whole ++ fraction)) && all_digits (whole ++ fraction) && leb (length fraction) most_places && leb (value (whole ++ fraction)) largest)
    (number (signed sign (value (whole ++ fraction))) p) None

-- 'with a point, places is the count after it'; 'without, places is d'
abbrev pub places_read : ℕ → List ℕ → ℕ
places_read d t = cond (ltb 0 (length (from_point t))) (length (drop 1 (from_point t))) d

-- 'I: .. one or more digits'; 'F: .. digits with at most one point' (a second point is no digit)
abbrev pub read_digits : Numeric → Sign → List ℕ → Option Number
read_digits I sign t = number_read sign 0 t []
read_digits (F d) sign t = number_read sign (places_read d t) (before_point t) (drop 1 (from_point t))

-- the field t read under I, and under F with d places; 'nothing left means 0 (for F with d places)'
unfoldable pub read_field : Numeric → List ℕ → Option Number
read_field f t =
    cond (eqb (length (unblanked t)) 0) (number (pos 0) (places f))
    (read_digits f (sign_of (unblanked t)) (after_sign (unblanked t)))

-- what an answer means: the refusal's number in 'Checks by place', 0 for none, and the units and places read, 0 for none
abbrev pub read_refusal : Option Number → ℕ
read_refusal (Some n) = 0
read_refusal None = 12

abbrev pub read_units : Option Number → ℤ
read_units (Some n) = n.units
read_units None = pos 0

abbrev pub read_places : Option Number → ℕ
read_places (Some n) = n.places
read_places None = 0

-- the answer is no refusal, and gives these units and places
pub record Gives (r : Option Number) (u : ℤ) (p : ℕ) : Type 0 where
  pub accepted : read_refusal r ≡ 0
  pub units : read_units r ≡ u
  pub places_read_lem : read_places r ≡ p

-- ---- Term 'shown value'

-- 'integer .. unchanged'
abbrev pub shown_integer : ℤ → ℤ
shown_integer n = n

-- 'decimal as rounded, with d places', of u / 10^s: its units, and its places
abbrev pub shown_units : ℤ → ℕ → ℕ → ℤ
shown_units u s d = rounded_units u s d

abbrev pub shown_places : ℤ → ℕ → ℕ → ℕ
shown_places u s d = d
