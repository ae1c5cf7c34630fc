-- What each state of the reader says of the text up to an offset.
-- Assumes nothing.
use mathlib.Core.Path.{◌≡◌}
use mathlib.Core.List.{List}
use Prim.Native.Nat.{ℕ, ◌+◌, ◌≤◌}
use lib.ListN.{length}
use Rattle.buffer.specs.Characters.{decimal_point, Printable, letter_a, letter_f, letter_i, letter_l, letter_t}
use Rattle.number.specs.Digits.{Digits, value}
use Rattle.format_grammar.specs.Characters.{opening_bracket, closing_bracket, comma, letter_s}
use Rattle.format_items.specs.Items.{Number, Repeat, Items}
use Rattle.format_grammar.specs.Grammar.{At, part, NumberAt, RepeatAt, Mark, doubled, Nonterminal, Derives}
use Rattle.format_grammar.specs.Reading.{Use, Mode, Open, State}

-- what stands in a bracket where an item may begin: nothing, or items and a comma
pub data Before (s : List ℕ) (l : ℕ) : ℕ → Items → ℕ → Type 0 where
  none : {a : ℕ} → Before s l a Items.none a
  some : {a b : ℕ} {xs : Items} → Derives s Nonterminal.items l a xs b → At s b comma → Before s l a xs (b + 1)

-- the innermost open bracket stands directly before an offset
pub data Bracket (s : List ℕ) : ℕ → ℕ → Open → Type 0 where
  format : At s 0 opening_bracket → Bracket s 4 1 Open.format
  group : {l a b c : ℕ} {xs : Items} {r : Repeat} {q : Open} → Bracket s (l + 1) a q → Before s (l + 1) a xs b → RepeatAt s b r c → At s c opening_bracket
      → Bracket s l (c + 1) (Open.group xs r q)

-- where an item may begin, in brackets
pub record Begun (s : List ℕ) (l : ℕ) (xs : Items) (q : Open) (a : ℕ) : Type 0 where
  pub bracket_end : ℕ
  pub bracket : Bracket s l bracket_end q
  pub before : Before s l bracket_end xs a

-- an item that begins at an offset has come to a number at another one
pub data UsedAt (s : List ℕ) : ℕ → Use → ℕ → Type 0 where
  start : {a : ℕ} → UsedAt s a Use.start a
  width_i : {a b : ℕ} {r : Repeat} → RepeatAt s a r b → At s b letter_i → UsedAt s a (Use.width_i r) (b + 1)
  width_f : {a b : ℕ} {r : Repeat} → RepeatAt s a r b → At s b letter_f → UsedAt s a (Use.width_f r) (b + 1)
  width_l : {a b : ℕ} {r : Repeat} → RepeatAt s a r b → At s b letter_l → UsedAt s a (Use.width_l r) (b + 1)
  width_a : {a b : ℕ} {r : Repeat} → RepeatAt s a r b → At s b letter_a → UsedAt s a (Use.width_a r) (b + 1)
  places : {a b c : ℕ} {r : Repeat} {w : Number} → RepeatAt s a r b → At s b letter_f → NumberAt s (b + 1) w c → At s c decimal_point → UsedAt s a (Use.places r w) (c + 1)
  column : {a : ℕ} → At s a letter_t → UsedAt s a Use.column (a + 1)

-- so many digits of a number have been read, none or up to three
pub record DigitsAt (s : List ℕ) (o v at : ℕ) : Type 0 where
  pub low : o ≤ at
  pub few : at ≤ o + 3
  pub within : at ≤ length s
  pub digits : Digits (part s o at)
  pub is : v ≡ value (part s o at)

-- a literal that begins at a has characters up to an offset
pub record InsideAt (s : List ℕ) (a m : ℕ) (cs : List ℕ) (at : ℕ) : Type 0 where
  pub low : a + 1 ≤ at
  pub mark : Mark m
  pub opens : At s a m
  pub between : part s (a + 1) at ≡ doubled m cs
  pub printable : Printable cs

pub data Reached (s : List ℕ) : ℕ → State → Type 0 where
  begin : Reached s 0 State.begin
  digits : {u : Use} {o v l a at : ℕ} {xs : Items} {q : Open} → Begun s l xs q a → UsedAt s a u o → DigitsAt s o v at
      → Reached s at (State.within (Mode.digits u o v) l xs q)
  inside : {m l a at : ℕ} {cs : List ℕ} {xs : Items} {q : Open} → Begun s l xs q a → InsideAt s a m cs at → Reached s at (State.within (Mode.inside m cs) l xs q)
  mark : {m l a b : ℕ} {cs : List ℕ} {xs : Items} {q : Open} → Begun s l xs q a → InsideAt s a m cs b → At s b m → Reached s (b + 1) (State.within (Mode.mark m cs) l xs q)
  letter : {l a : ℕ} {xs : Items} {q : Open} → Begun s l xs q a → At s a letter_s → Reached s (a + 1) (State.within Mode.letter l xs q)
  after : {l a at : ℕ} {xs : Items} {q : Open} → Bracket s l a q → Derives s Nonterminal.items l a xs at → Reached s at (State.within Mode.after l xs q)
  end : {b : ℕ} {xs : Items} → At s 0 opening_bracket → Derives s Nonterminal.items 4 1 xs b → At s b closing_bracket → Reached s (b + 1) (State.end xs)
  dead : {at : ℕ} → Reached s at State.dead
