-- The rules, 'Fields read': L.
-- Assumes nothing.
use Rattle.std.specs.Prelude.{Bool, true, false, cond, List, [], ◌∷◌, Option, Some, None, ℕ, eqb}
use Rattle.buffer.specs.Characters.{blank, decimal_point}
use Rattle.field_written.specs.LogicalField.{letter}

-- 'blanks or none'
unfoldable pub after_blanks : List ℕ → List ℕ
after_blanks [] = []
after_blanks (x ∷ xs) = cond (eqb x blank) (after_blanks xs) (x ∷ xs)

-- 'an optional period'
abbrev pub after_period : List ℕ → List ℕ
after_period [] = []
after_period (x ∷ xs) = cond (eqb x decimal_point) xs (x ∷ xs)

-- 'T or F, then anything'
abbrev pub letter_read : List ℕ → Option Bool
letter_read [] = None
letter_read (x ∷ xs) = cond (eqb x (letter true)) (Some true) (cond (eqb x (letter false)) (Some false) None)

-- the field t read under L
unfoldable pub logical_read : List ℕ → Option Bool
logical_read t = letter_read (after_period (after_blanks t))
