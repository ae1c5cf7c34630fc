-- The rules, 'Fields written': the field of a logical.
-- Assumes nothing.
use Rattle.std.specs.Prelude.{Bool, true, false, List, [], ◌∷◌, ℕ}
use Rattle.buffer.specs.Characters.{letter_f, letter_t}
use Rattle.field_written.specs.Written.{justified}

-- 'T or F'
abbrev pub letter : Bool → ℕ
letter true = letter_t
letter false = letter_f

-- 'L: w − 1 blanks, then T or F.'
unfoldable pub logical_field : ℕ → Bool → List ℕ
logical_field w b = justified w (letter b ∷ [])
