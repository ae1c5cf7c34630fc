-- The rules, program `trimsheet`, its input: 'a line with R, a line with the format, then the list text'.
-- Assumes nothing.
use Rattle.std.specs.Prelude.{cond, List, ℕ}
use Rattle.number.specs.Digits.{value}
use Rattle.list_text.specs.Lines.{first_line, after_line}
use Rattle.list_text.specs.ElementLines.{some_digits}

-- 'one to three digits'
abbrev pub most_width_digits : ℕ
most_width_digits = 3

-- 'a first line other than one to three digits is refusal 1': R is then 0, which row 1 refuses
unfoldable pub width_on : List ℕ → ℕ
width_on l = cond (some_digits most_width_digits l) (value l) 0

abbrev pub input_width : List ℕ → ℕ
input_width s = width_on (first_line s)

-- 'a missing format line counts as an empty format', as the first line of nothing is empty
abbrev pub input_format : List ℕ → List ℕ
input_format s = first_line (after_line s)

abbrev pub input_list : List ℕ → List ℕ
input_list s = after_line (after_line s)
