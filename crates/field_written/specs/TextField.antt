-- The rules, 'Fields written': the field of a text.
-- Assumes nothing.
use Rattle.std.specs.Prelude.{cond, List, ℕ, leb, length, take}
use Rattle.field_written.specs.Written.{justified}

-- 'A: text of length m right justified if m ≤ w, else its first w characters.'
unfoldable pub text_field : ℕ → List ℕ → List ℕ
text_field w text = cond (leb (length text) w) (justified w text) (take w text)
