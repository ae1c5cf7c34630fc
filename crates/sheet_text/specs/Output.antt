-- The rules, program `trimsheet`, its output: 'each record and a line feed, then `records` and `starred` with their counts, or
-- one line `refused`, number, place, single blanks between'.
-- Assumes nothing.
use Rattle.std.specs.Prelude.{List, [], ◌∷◌, ◌++◌, ℕ, zero, suc, take, drop}
use Rattle.buffer.specs.Characters.{blank, bytes}
use Rattle.number.specs.Digits.{digits_of, digit_count}
use Rattle.list_elements.specs.declared.Value.{Value}
use Rattle.sheet_walk.specs.Laid.{written}
use Rattle.sheet_walk.specs.Refusals.{refusal_number, refusal_place}
use Rattle.write_passes.specs.Placed.{characters, starred_in}
use Rattle.sheet_write.specs.Writing.{Writing, accepts, refuses}
use Rattle.list_text.specs.Lines.{line_feed}

-- a count, a number or a place: its decimal digits, with no leading zero
unfoldable pub decimal_digits : ℕ → List ℕ
decimal_digits n = digits_of (digit_count n) n

-- 'each record and a line feed': the first n records of R bytes
unfoldable pub record_lines : ℕ → ℕ → List ℕ → List ℕ
record_lines R zero records = []
record_lines R (suc n) records = take R records ++ (line_feed ∷ record_lines R n (drop R records))

-- '`records` and `starred` with their counts'
unfoldable pub counts_line : ℕ → ℕ → List ℕ
counts_line n k = bytes "records " ++ (decimal_digits n ++ (bytes " starred " ++ (decimal_digits k ++ (line_feed ∷ []))))

-- 'one line `refused`, number, place'
unfoldable pub refused_line : ℕ → ℕ → List ℕ
refused_line number place = bytes "refused " ++ (decimal_digits number ++ (blank ∷ (decimal_digits place ++ (line_feed ∷ []))))

-- the whole output. (Laid over a buffer of no bytes, what is written is the n records alone.)
abbrev pub output_of : ℕ → List ℕ → List Value → Writing → List ℕ
output_of R text vs (accepts t n) = record_lines R n (written R (characters text vs) t n []) ++ counts_line n (starred_in vs t)
output_of R text vs (refuses why) = refused_line (refusal_number why) (refusal_place why)
