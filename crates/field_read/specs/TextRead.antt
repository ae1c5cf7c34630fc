-- The rules, 'Fields read': A, and the shown value of a text.
-- Assumes nothing.
use Rattle.std.specs.Prelude.{Bool, cond, List, ◌++◌, ℕ, ◌-◌, leb, length, take, drop, replicate}
use Rattle.buffer.specs.Characters.{blank, all_printable}

-- 'all w bytes 32 to 126'
abbrev pub text_readable : List ℕ → Bool
text_readable t = all_printable t

-- the field t of w characters, for a text of length m: 'if w ≥ m the last m characters, else the w characters followed by m − w
-- blanks'
unfoldable pub text_read : ℕ → List ℕ → List ℕ
text_read m t = cond (leb m (length t)) (drop (length t - m) t) (t ++ replicate (m - length t) blank)

-- ---- Term 'shown value'

-- 'unchanged, or its first w characters and blanks up to its length'
unfoldable pub shown_text : ℕ → List ℕ → List ℕ
shown_text w text = cond (leb (length text) w) text (take w text ++ replicate (length text - w) blank)
