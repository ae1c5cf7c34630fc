-- The rules, the list text: 'one element a line: I and n; D, u and s; L and T or F; A and the text, single blanks between; the
-- text is the rest of its line. Numbers have an optional − and 1 to 18 digits, s one digit'.
-- Assumes nothing.
use Rattle.std.specs.Prelude.{Bool, ◌&&◌, ◌||◌, cond, List, ℕ, ◌+◌, ◌-◌, eqb, leb, ℤ, length, take, drop, get_or}
use Rattle.buffer.specs.Characters.{blank, minus_sign, digit_zero, letter_i, letter_d, letter_l, letter_a, letter_t, letter_f}
use Rattle.number.specs.Limits.{most_digits}
use Rattle.number.specs.Digits.{is_digit, all_digits, value}
use Rattle.number.specs.Magnitude.{with_sign}
use Rattle.list_elements.specs.declared.Value.{Value}
use Rattle.list_elements.specs.declared.Value.TheVariants.{Integer, Decimal, Logical, Text}

-- ---- numbers

-- one or more digits, at most so many
unfoldable pub some_digits : ℕ → List ℕ → Bool
some_digits most s = leb 1 (length s) && (leb (length s) most && all_digits s)

-- 'an optional −'
abbrev pub has_minus : List ℕ → Bool
has_minus s = eqb (get_or s 0 0) minus_sign

abbrev pub after_minus : List ℕ → List ℕ
after_minus s = cond (has_minus s) (drop 1 s) s

-- 'an optional − and 1 to 18 digits'
unfoldable pub is_number : List ℕ → Bool
is_number s = some_digits most_digits (after_minus s)

unfoldable pub number_of : List ℕ → ℤ
number_of s = with_sign (has_minus s) (value (after_minus s))

-- ---- the four kinds of lines

-- 'A malformed element line is refusal 6 at that element': it counts as a text of length 0, which row 6 refuses
abbrev pub malformed : Value
malformed = Text (record { start = 0; len = 0 })

-- 'I and n', after the letter and the blank
unfoldable pub integer_line : List ℕ → Value
integer_line s = cond (is_number s) (Integer (number_of s)) malformed

-- 'D, u and s': u stands before the last two bytes, which are a blank and the digit s
abbrev pub units_part : List ℕ → List ℕ
units_part s = take (length s - 2) s

abbrev pub places_byte : List ℕ → ℕ
places_byte s = get_or s (length s - 1) 0

unfoldable pub decimal_line : List ℕ → Value
decimal_line s =
    cond (is_number (units_part s) && (eqb (get_or s (length s - 2) 0) blank && is_digit (places_byte s)))
    (Decimal (record { units = number_of (units_part s); places = places_byte s - digit_zero })) malformed

-- 'L and T or F'
unfoldable pub logical_line : List ℕ → Value
logical_line s =
    cond (eqb (length s) 1 && (eqb (get_or s 0 0) letter_t || eqb (get_or s 0 0) letter_f)) (Logical (eqb (get_or s 0 0) letter_t)) malformed

-- the line begins with this letter and a blank
abbrev pub begins : ℕ → List ℕ → Bool
begins letter l = eqb (get_or l 0 0) letter && eqb (get_or l 1 0) blank

-- the element of a line that starts at this offset: 'A and the text', which is the rest of its line, as its place
unfoldable pub element_on : ℕ → List ℕ → Value
element_on start l =
    cond (begins letter_i l) (integer_line (drop 2 l))
    (cond (begins letter_d l) (decimal_line (drop 2 l))
    (cond (begins letter_l l) (logical_line (drop 2 l))
    (cond (begins letter_a l) (Text (record { start = start + 2; len = length l - 2 })) malformed)))
