-- The line with the record width.
-- Assumes nothing.
use mathlib.Core.Path.{◌≡◌, refl}
use mathlib.Core.List.{List}
use Prim.Native.Nat.{ℕ}
use Rattle.std.specs.Prelude.{Option, None, Some, unwrap_or}
use Rattle.list_text.specs.Steps.{digits_read}
use Rattle.list_text.proofs.DigitReads.{digits_value, digits_none}
use Rattle.sheet_text.specs.Input.{most_width_digits, width_on}

-- the number that its digits make; where they make none, 0
pub width_read : (l : List ℕ) → unwrap_or (digits_read most_width_digits l) 0 ≡ width_on l
unfolding width_on
width_read l = go (digits_read most_width_digits l) refl
  where
    go : (r : Option ℕ) → digits_read most_width_digits l ≡ r → unwrap_or r 0 ≡ width_on l
    go (Some n) e = let w = digits_value most_width_digits l e in rw (w.0, w.1)
    go None e = rw (digits_none most_width_digits l e)
