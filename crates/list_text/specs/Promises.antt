-- What the theorems of proofs/ say of list text.
-- Assumes nothing.
use Rattle.std.specs.Prelude.{◌≡◌, ◌⊎◌, true, false, List, [], ◌∷◌, ◌++◌, ℕ, ◌+◌, ◌-◌, ◌*◌, ◌<◌, ◌≤◌, ℤ, length}
use Rattle.buffer.specs.Characters.{blank, minus_sign, digit_zero, digit_nine, letter_i, letter_d, letter_l, letter_a, letter_t, letter_f}
use Rattle.number.specs.Limits.{most_digits}
use Rattle.number.specs.Digits.{Digits, value}
use Rattle.number.specs.Magnitude.{with_sign}
use Rattle.list_elements.specs.Limits.{longest_text, bad, within_limits}
use Rattle.list_elements.specs.declared.Value.{Value}
use Rattle.list_elements.specs.declared.Value.TheVariants as value
use Rattle.list_text.specs.Lines.{first_line, after_line, lines}
use Rattle.list_text.specs.ElementLines.{malformed, element_on}
use Rattle.list_text.specs.ListText.{line_check}
use Rattle.list_elements.specs.Elements.{most_elements}

-- a text has its first line, and the lines of what follows it; the empty text has none
abbrev pub LinesAre : Type 0
LinesAre = (s : List ℕ) → 0 < length s → lines s ≡ first_line s ∷ lines (after_line s)

-- ---- element lines in the rules' words

-- 'Numbers have an optional − and 1 to 18 digits'
pub data Number : List ℕ → ℤ → Type 0 where
  plain : {ds : List ℕ} → Digits ds → 1 ≤ length ds → length ds ≤ most_digits → Number ds (with_sign false (value ds))
  minus : {ds : List ℕ} → Digits ds → 1 ≤ length ds → length ds ≤ most_digits → Number (minus_sign ∷ ds) (with_sign true (value ds))

-- 'I and n; D, u and s; L and T or F; A and the text, single blanks between; the text is the rest of its line', 's one digit'
pub data ElementLine (start : ℕ) : List ℕ → Value → Type 0 where
  integer : {n : List ℕ} {z : ℤ} → Number n z → ElementLine start (letter_i ∷ blank ∷ n) (value.Integer z)
  decimal : {u : List ℕ} {z : ℤ} {s : ℕ} → Number u z → digit_zero ≤ s → s ≤ digit_nine
      → ElementLine start (letter_d ∷ blank ∷ (u ++ (blank ∷ s ∷ []))) (value.Decimal (record { units = z; places = s - digit_zero }))
  logical_true : ElementLine start (letter_l ∷ blank ∷ letter_t ∷ []) (value.Logical true)
  logical_false : ElementLine start (letter_l ∷ blank ∷ letter_f ∷ []) (value.Logical false)
  text : {bytes : List ℕ} → ElementLine start (letter_a ∷ blank ∷ bytes) (value.Text (record { start = start + 2; len = length bytes }))

-- a line is such a line, of the element that the definition gives, and of no other; or it is none, and counts as malformed
abbrev pub ElementLineIs : Type 0
ElementLineIs =
    (start : ℕ) (l : List ℕ) → ((v : Value) → ElementLine start l v → element_on start l ≡ v)
    × (ElementLine start l (element_on start l) ⊎ (element_on start l ≡ malformed))

-- 'A malformed element line is refusal 6 at that element': what it counts as is outside the limits
abbrev pub MalformedOutside : Type 0
MalformedOutside = (area : List ℕ) → within_limits area malformed ≡ false

-- ---- how much of a list text matters

-- the longest line of an element within its limits: 'A', a blank and 64 bytes
abbrev pub longest_line : ℕ
longest_line = 2 + longest_text

-- 64 such lines and their line feeds
abbrev pub longest_list : ℕ
longest_list = most_elements * (longest_line + 1)

-- a text, and the text with more behind it, are refused at the same element
pub record RefusedAlike (s more : List ℕ) : Type 0 where
  pub place : ℕ
  pub short : line_check s ≡ bad place
  pub whole : line_check (s ++ more) ≡ bad place

-- 'over 64', or a line that is too long: a longer text is refused, and what follows does not matter
abbrev pub LongRefused : Type 0
LongRefused = (s more : List ℕ) → longest_list < length s → RefusedAlike s more
