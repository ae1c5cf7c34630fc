-- The rules, 'Sheet examples': those marked M.
-- Assumes nothing.
use Rattle.std.specs.Prelude.{◌≡◌, cond, List, [], ◌∷◌, map, ℕ, eqb, length, replicate, ℤ, pos, neg_ℤ, None}
use Prim.Native.String.{String}
use Rattle.buffer.specs.Characters.{blank, bytes}
use Rattle.settings.specs.declared.SignSetting.TheVariants.{AfterSS}
use Rattle.field_written.specs.Numeral.{I, F}
use Rattle.field_written.specs.Written.{field, starred, put_decimal, decimal_part, put_starred}
use Rattle.field_read.specs.Read.{read_field, read_refusal, read_units, read_places}

pub data Example : Type 0 where
  -- Iw of n gives the text, and so many starred fields
  integer : (w : ℕ) (n : ℤ) → String → (stars : ℕ) → Example
  -- Fw.d of u/s gives the text, and so many starred fields
  decimal : (w d : ℕ) (u : ℤ) (s : ℕ) → String → (stars : ℕ) → Example
  -- the text, of w bytes, read under Fw.d gives u/s
  read : (w d : ℕ) → String → (u : ℤ) (s : ℕ) → Example

pub data Answer : Type 0 where
  writes : List ℕ → (stars : ℕ) → Answer
  reads : (refusal : ℕ) (u : ℤ) (s : ℕ) → Answer

-- by the definitions: the field, a decimal's in w blanks; the field read
unfoldable pub computed : Example → Answer
computed (integer w n t k) = writes (field AfterSS I w n) (cond (starred AfterSS I w n) 1 0)
computed (decimal w d u s t k) = writes (decimal_part AfterSS (replicate w blank) d u s) (put_starred (put_decimal AfterSS w d u s))
computed (read w d t u s) =
    let r = cond (eqb (length (bytes t)) w) (read_field (F d) (bytes t)) None in
    reads (read_refusal r) (read_units r) (read_places r)

-- by the rules
unfoldable pub stated : Example → Answer
stated (integer w n t k) = writes (bytes t) k
stated (decimal w d u s t k) = writes (bytes t) k
stated (read w d t u s) = reads 0 u s

unfoldable pub examples : List Example
examples =
    integer 3 (pos 999) "999" 0
    ∷ integer 3 (neg_ℤ (pos 99)) "-99" 0
    ∷ integer 3 (pos 1000) "***" 1
    ∷ integer 3 (neg_ℤ (pos 100)) "***" 1
    ∷ decimal 4 1 (neg_ℤ (pos 3)) 1 "-0.3" 0
    ∷ decimal 3 1 (neg_ℤ (pos 3)) 1 "-.3" 0
    ∷ decimal 2 1 (neg_ℤ (pos 3)) 1 "**" 1
    ∷ decimal 3 1 (neg_ℤ (pos 4)) 2 "0.0" 0
    ∷ decimal 3 1 (pos 995) 2 "***" 1
    ∷ decimal 2 0 (pos 4) 1 "0." 0
    ∷ decimal 2 0 (pos 5) 1 "1." 0
    ∷ decimal 1 0 (pos 0) 0 "*" 1
    ∷ read 4 2 "1234" (pos 1234) 2
    ∷ read 4 2 "12.3" (pos 123) 1
    ∷ read 4 2 "    " (pos 0) 2
    ∷ []

-- every marked example is true of the definitions
abbrev pub ExamplesHold : Type 0
ExamplesHold = map computed examples ≡ map stated examples
