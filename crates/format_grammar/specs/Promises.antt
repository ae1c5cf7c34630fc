-- What the theorems of proofs/Promises.antt say of formats.
-- Assumes nothing.
use Rattle.std.specs.Prelude.{◌≡◌, ◌↔◌, false, List, [], ◌∷◌, ℕ, ◌+◌, ◌<◌, ◌≤◌, length, get_or}
use Rattle.number.specs.Digits.{is_digit}
use Rattle.format_items.specs.Items.{Number, Items}
use Rattle.format_grammar.specs.Grammar.{At, NumberAt, Mark, LiteralAt, Format, LongestShared}
use Rattle.format_items.specs.Ranges.{Ranged, ranged, numbers, AllWithin}
use Rattle.format_items.specs.Size.{size, largest_size}
use Rattle.format_items.specs.Met.{met}
use Rattle.format_grammar.specs.Check.{accepted, outcome, outcome_number, outcome_place}
use Rattle.format_items.specs.MetRanges.{AllMetWithin}
use Rattle.format_items.specs.Refusals.{longest_format}
use Rattle.format_items.specs.Promises.{FirstOutsideAt}

-- ---- numbers and their ranges

-- from a up to b stand literals, and bytes that are neither digits nor marks
pub data NoNumber (s : List ℕ) : ℕ → ℕ → Type 0 where
  none : {a : ℕ} → NoNumber s a a
  byte : {a c b : ℕ} → At s a c → is_digit c ≡ false → (Mark c → ⊥) → NoNumber s (a + 1) b → NoNumber s a b
  literal : {a c b : ℕ} {cs : List ℕ} → LiteralAt s a cs c → NoNumber s (c + 1) b → NoNumber s a b

-- no digit stands at d
abbrev pub NoDigit : List ℕ → ℕ → Type 0
NoDigit s d = d < length s → is_digit (get_or s d 0) ≡ false

-- outside literals the numbers ns, each up to its last digit, and no other digits stand from a up to b, in this order
pub data InOrder (s : List ℕ) : ℕ → List Ranged → ℕ → Type 0 where
  none : {a b : ℕ} → NoNumber s a b → InOrder s a [] b
  next : {a c d b : ℕ} {n : Number} {low high : ℕ} {ns : List Ranged} → NoNumber s a c → NumberAt s c n d → NoDigit s d → InOrder s d ns b → InOrder s a (ranged n low high ∷ ns) b

-- the numbers of a format's items are those of its text, in the order of `numbers`
abbrev pub NumbersInOrder : Type 0
NumbersInOrder = (s : List ℕ) (xs : Items) → Format s xs → InOrder s 0 (numbers xs) (length s)

-- ---- the format check: what is accepted and what each row refuses, in terms of the grammar

-- the format check answers with number n, 0 for accepted, and place p
pub record Answers (s : List ℕ) (n p : ℕ) : Type 0 where
  pub number_is : outcome_number (outcome s) ≡ n
  pub place_is : outcome_place (outcome s) ≡ p

-- of the grammar, with every number within its range, and within the limits of length and size
pub record Acceptable (s : List ℕ) (xs : Items) : Type 0 where
  pub short : length s ≤ longest_format
  pub format : Format s xs
  pub ranges : AllWithin (numbers xs)
  pub small : size xs ≤ largest_size

-- row 2: 'format over 1,024 bytes', place 1,024
pub record TooLong (s : List ℕ) (p : ℕ) : Type 0 where
  pub long : longest_format < length s
  pub place_is : p ≡ longest_format

-- row 3: 'not of the grammar', and its place
pub record NotGrammatical (s : List ℕ) (p : ℕ) : Type 0 where
  pub short : length s ≤ longest_format
  pub not_format : (xs : Items) → Format s xs → ⊥
  pub place_is : LongestShared s p

-- row 4: 'a number out of range', place 'offset of the first such number'
pub record OutOfRange (s : List ℕ) (p : ℕ) : Type 0 where
  pub short : length s ≤ longest_format
  pub read : Items
  pub format : Format s read
  pub place_is : FirstOutsideAt (numbers read) p

-- row 5: 'size over 4,096', place 0
pub record TooLarge (s : List ℕ) (p : ℕ) : Type 0 where
  pub short : length s ≤ longest_format
  pub read : Items
  pub format : Format s read
  pub ranges : AllWithin (numbers read)
  pub large : largest_size < size read
  pub place_is : p ≡ 0

-- accepted as these items is exactly what the grammar derives as them, within ranges and limits
abbrev pub AcceptsExactly : Type 0
AcceptsExactly = (s : List ℕ) (xs : Items) → (outcome s ≡ accepted xs) ↔ Acceptable s xs

-- each text has at most one reading as items
abbrev pub OneReading : Type 0
OneReading = (s : List ℕ) (xs ys : Items) → Format s xs → Format s ys → xs ≡ ys

-- each row answers exactly where its condition holds, with its place
abbrev pub LengthRefused : Type 0
LengthRefused = (s : List ℕ) (p : ℕ) → Answers s 2 p ↔ TooLong s p

abbrev pub GrammarRefused : Type 0
GrammarRefused = (s : List ℕ) (p : ℕ) → Answers s 3 p ↔ NotGrammatical s p

abbrev pub RangeRefused : Type 0
RangeRefused = (s : List ℕ) (p : ℕ) → Answers s 4 p ↔ OutOfRange s p

abbrev pub SizeRefused : Type 0
SizeRefused = (s : List ℕ) (p : ℕ) → Answers s 5 p ↔ TooLarge s p

-- what answers with number n and place p: acceptance, or one of the four rows
pub data AnsweredBy (s : List ℕ) : ℕ → ℕ → Type 0 where
  acceptable : {xs : Items} → Acceptable s xs → AnsweredBy s 0 0
  too_long : {p : ℕ} → TooLong s p → AnsweredBy s 2 p
  not_grammatical : {p : ℕ} → NotGrammatical s p → AnsweredBy s 3 p
  out_of_range : {p : ℕ} → OutOfRange s p → AnsweredBy s 4 p
  too_large : {p : ℕ} → TooLarge s p → AnsweredBy s 5 p

-- every text is accepted or refused by one of the four rows
abbrev pub AlwaysAnswered : Type 0
AlwaysAnswered = (s : List ℕ) → AnsweredBy s (outcome_number (outcome s)) (outcome_place (outcome s))

-- ---- the items met

-- the items met of an accepted format have their numbers within their ranges, and there is at least one
abbrev pub MetInRange : Type 0
MetInRange = (s : List ℕ) (xs : Items) → Acceptable s xs → AllMetWithin (met xs) × (0 < length (met xs))
