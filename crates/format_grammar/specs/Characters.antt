-- The bytes of characters that have a meaning in a format alone. (Digits, the decimal point, and the letters that fields or list text
-- use too: `buffer`, `Characters`.)
-- Assumes nothing.
use Rattle.std.specs.Prelude.{ℕ}

-- "
abbrev pub quotation_mark : ℕ
quotation_mark = 34

-- '
abbrev pub apostrophe : ℕ
apostrophe = 39

-- (
abbrev pub opening_bracket : ℕ
opening_bracket = 40

-- )
abbrev pub closing_bracket : ℕ
closing_bracket = 41

-- ,
abbrev pub comma : ℕ
comma = 44

-- /
abbrev pub slash_sign : ℕ
slash_sign = 47

-- the letters that only formats use
abbrev pub letter_x : ℕ
letter_x = 88

abbrev pub letter_p : ℕ
letter_p = 80

abbrev pub letter_s : ℕ
letter_s = 83
