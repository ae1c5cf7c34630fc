-- A format read a byte at a time: the items of a grammatical text, and of any other the place at which no byte can go on.
-- (The laws `AcceptsExactly` and `GrammarRefused` of `Promises`: this reads exactly what the grammar derives, and the place
-- is that of the longest beginning that some grammatical text shares.)
-- Assumes nothing.
use Rattle.std.specs.Prelude.{Bool, true, false, ◌&&◌, ◌||◌, cond, List, [], ◌∷◌, ◌++◌, ℕ, ◌+◌, ◌-◌, ◌*◌, ltb, eqb, drop}
use Rattle.buffer.specs.Characters.{decimal_point, digit_zero, is_printable, letter_a, letter_f, letter_i, letter_l, letter_t}
use Rattle.number.specs.Digits.{is_digit}
use Rattle.format_grammar.specs.Characters.{quotation_mark, apostrophe, opening_bracket, closing_bracket, comma, slash_sign, letter_x, letter_p, letter_s}
use Rattle.settings.specs.declared.SettingItem.TheVariants.{SP, SS, S}
use Rattle.format_grammar.specs.Grammar.{levels}
use Rattle.format_items.specs.Items.{Number, number, Repeat, absent, given, I, F, L, A, Aw, Items, join}

-- what a number is read for, with what was read of its item before
pub data Use : Type 0 where
  -- the beginning of an item: r before it, or n before X
  start : Use
  width_i width_f width_l width_a : Repeat → Use
  -- d, after the w of an F
  places : Repeat → Number → Use
  -- n after T
  column : Use

-- where in an item the reader is
pub data Mode : Type 0 where
  -- the digits from an offset on make a value so far
  digits : Use → (from value : ℕ) → Mode
  -- between marks m, after some characters
  inside : (m : ℕ) → List ℕ → Mode
  -- after these and one more mark: the end of the literal, or the first half of a doubled mark
  mark : (m : ℕ) → List ℕ → Mode
  -- after an S: it may be all of an item, or the first of two letters
  letter : Mode
  -- after an item
  after : Mode

-- the brackets that are open: for each group the items before it, its repeat, and the brackets around it
pub data Open : Type 0 where
  format : Open
  group : Items → Repeat → Open → Open

-- before the first bracket; in brackets, where so many levels may open and after the items read so far in the innermost;
-- after the last bracket; where no byte can go on
pub data State : Type 0 where
  begin : State
  within : Mode → (levels : ℕ) → Items → Open → State
  end : Items → State
  dead : State

-- the first of two states where a test holds, else the second
abbrev pub pick : Bool → State → State → State
pick true a b = a
pick false a b = b

-- where an item may begin at an offset
abbrev pub wanted : ℕ → Mode
wanted at = digits start at 0

-- the bracket closes
abbrev pub close : ℕ → Items → Open → State
close l xs format = end xs
close l xs (group before r q) = within after (l + 1) (join before (Items.group r xs Items.none)) q

-- the byte b, at `at`, after an item
abbrev pub separated : ℕ → ℕ → Items → Open → ℕ → State
separated at l xs q b = pick (eqb b comma) (within (wanted (at + 1)) l xs q) (pick (eqb b closing_bracket) (close l xs q) dead)

-- the number that stands between two offsets, if any
abbrev pub written : ℕ → ℕ → ℕ → Repeat
written from at v = cond (eqb at from) absent (given (number from v))

-- a state that no number may stand before
abbrev pub only_absent : Repeat → State → State
only_absent absent a = a
only_absent (given n) a = dead

-- after nX, for which a number must stand
abbrev pub skipped : Repeat → ℕ → Items → Open → State
skipped absent l xs q = dead
skipped (given n) l xs q = within after l (join xs (Items.X n Items.none)) q

-- in a group that opens, if a level is left
abbrev pub opened : Repeat → ℕ → ℕ → Items → Open → State
opened r at l xs q = pick (eqb l 0) dead (within (wanted (at + 1)) (l - 1) Items.none (group xs r q))

-- the byte b, at `at`, after the number with which an item begins
abbrev pub begun : Repeat → ℕ → ℕ → Items → Open → ℕ → State
begun r at l xs q b =
    pick (eqb b letter_i) (within (digits (width_i r) (at + 1) 0) l xs q)
    (pick (eqb b letter_f) (within (digits (width_f r) (at + 1) 0) l xs q)
    (pick (eqb b letter_l) (within (digits (width_l r) (at + 1) 0) l xs q)
    (pick (eqb b letter_a) (within (digits (width_a r) (at + 1) 0) l xs q)
    (pick (eqb b opening_bracket) (opened r at l xs q)
    (pick (eqb b letter_x) (skipped r l xs q)
    (pick (eqb b letter_t) (only_absent r (within (digits column (at + 1) 0) l xs q))
    (pick (eqb b slash_sign) (within after l (join xs (Items.slash r Items.none)) q)
    (pick (eqb b letter_s) (only_absent r (within letter l xs q))
    (pick (eqb b apostrophe || eqb b quotation_mark) (only_absent r (within (inside b []) l xs q))
    dead)))))))))

-- after Fw and the point, for which w must stand
abbrev pub pointed : Repeat → Repeat → ℕ → ℕ → Items → Open → State
pointed r absent at l xs q = dead
pointed r (given w) at l xs q = within (digits (places r w) (at + 1) 0) l xs q

-- the item that a number ends, or none
abbrev pub ended : Use → Repeat → Items
ended start n = Items.none
ended (width_i r) absent = Items.none
ended (width_i r) (given w) = Items.field r (I w) Items.none
ended (width_f r) n = Items.none
ended (width_l r) absent = Items.none
ended (width_l r) (given w) = Items.field r (L w) Items.none
ended (width_a r) absent = Items.field r A Items.none
ended (width_a r) (given w) = Items.field r (Aw w) Items.none
ended (places r w) absent = Items.none
ended (places r w) (given d) = Items.field r (F w d) Items.none
ended column absent = Items.none
ended column (given n) = Items.T n Items.none

-- a state that some item must have led to
abbrev pub unless_none : Items → State → State
unless_none Items.none a = dead
unless_none (Items.field r k xs) a = a
unless_none (Items.group r ys xs) a = a
unless_none (Items.X n xs) a = a
unless_none (Items.T n xs) a = a
unless_none (Items.slash r xs) a = a
unless_none (Items.literal cs xs) a = a
unless_none (Items.setting k xs) a = a

-- the byte b, at `at`, after an item that a number ends
abbrev pub after_number : Items → ℕ → ℕ → Items → Open → ℕ → State
after_number x at l xs q b = unless_none x (separated at l (join xs x) q b)

-- the byte b, at `at`, after a number
abbrev pub used : Use → Repeat → ℕ → ℕ → Items → Open → ℕ → State
used start n at l xs q b = begun n at l xs q b
used (width_i r) n at l xs q b = after_number (ended (width_i r) n) at l xs q b
used (width_f r) n at l xs q b = pick (eqb b decimal_point) (pointed r n at l xs q) dead
used (width_l r) n at l xs q b = after_number (ended (width_l r) n) at l xs q b
used (width_a r) n at l xs q b = after_number (ended (width_a r) n) at l xs q b
used (places r w) n at l xs q b = after_number (ended (places r w) n) at l xs q b
used column n at l xs q b = after_number (ended column n) at l xs q b

-- the byte b, at `at`, after an S
abbrev pub lettered : ℕ → ℕ → Items → Open → ℕ → State
lettered at l xs q b =
    pick (eqb b letter_p) (within after l (join xs (Items.setting SP Items.none)) q)
    (pick (eqb b letter_s) (within after l (join xs (Items.setting SS Items.none)) q)
    (separated at l (join xs (Items.setting S Items.none)) q b))

-- no characters
abbrev pub is_empty : List ℕ → Bool
is_empty [] = true
is_empty (x ∷ xs) = false

-- one more byte, at `at`, in brackets
unfoldable pub step_within : Mode → ℕ → ℕ → Items → Open → ℕ → State
step_within (digits u from v) at l xs q b =
    pick (ltb at (from + 3) && is_digit b) (within (digits u from (v * 10 + (b - digit_zero))) l xs q) (used u (written from at v) at l xs q b)
step_within (inside m cs) at l xs q b =
    pick (eqb b m) (within (mark m cs) l xs q) (pick (is_printable b) (within (inside m (cs ++ b ∷ [])) l xs q) dead)
step_within (mark m cs) at l xs q b =
    pick (eqb b m) (within (inside m (cs ++ b ∷ [])) l xs q) (pick (is_empty cs) dead (separated at l (join xs (Items.literal cs Items.none)) q b))
step_within letter at l xs q b = lettered at l xs q b
step_within after at l xs q b = separated at l xs q b

-- one more byte
unfoldable pub step : ℕ → State → ℕ → State
step at begin b = pick (eqb b opening_bracket) (within (wanted (at + 1)) levels Items.none format) dead
step at (within m l xs q) b = step_within m at l xs q b
step at (end xs) b = dead
step at dead b = dead

-- the items of a text, or the offset of the byte that cannot go on
pub data Reading : Type 0 where
  items : Items → Reading
  wrong : (place : ℕ) → Reading

-- the text ends
abbrev pub final : ℕ → State → Reading
final at begin = wrong at
final at (within m l xs q) = wrong at
final at (end xs) = items xs
final at dead = wrong at

-- the first answer where no byte can go on, else the second
abbrev pub unless_dead : State → Reading → Reading → Reading
unless_dead begin a b = b
unless_dead (within m l xs q) a b = b
unless_dead (end xs) a b = b
unless_dead dead a b = a

-- the rest of a text, read from an offset on
unfoldable pub read_from : ℕ → State → List ℕ → Reading
read_from at st [] = final at st
read_from at st (b ∷ s) = unless_dead (step at st b) (wrong at) (read_from (at + 1) (step at st b) s)

-- a text, from an offset on
unfoldable pub read_at : List ℕ → ℕ → State → Reading
read_at s at st = read_from at st (drop at s)

-- a text
unfoldable pub reading : List ℕ → Reading
reading s = read_at s 0 begin
