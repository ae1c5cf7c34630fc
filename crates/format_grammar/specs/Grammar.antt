-- The rules, 'The format' and 'Plus signs': the grammar, as a relation between a text s and what stands in it from an offset
-- a up to an offset b, the byte at b not included. Ranges, the size and the 1,024 bytes are no part of it. Laid beside the rules:
--   'Format: ( items ), one or more items, a comma between any two.'     Format, and Derives for items
--   'Item: ..'                                                           Derives for item
--   'Field: Iw, Fw.d, Lw, A or Aw.'                                      FieldAt
--   'SP, SS and S .. are items without repeat'                           SettingAt
--   'Literal: ..'                                                        LiteralAt
--   'r, w, d, n are one to three digits.'                                NumberAt
--   'Groups directly in the format have level 1; a group of level 4
--    holds no group, and this is part of the grammar.'                   the l of Derives
--   'Capital letters; no blanks outside literals.'                       no rule admits another byte
-- Assumes nothing.
use Rattle.std.specs.Prelude.{◌≡◌, ◌⊎◌, cond, List, [], ◌∷◌, ◌++◌, ℕ, ◌+◌, ◌-◌, ◌<◌, ◌≤◌, eqb, length, get_or, take, drop}
use Rattle.buffer.specs.Characters.{decimal_point, Printable, letter_a, letter_f, letter_i, letter_l, letter_t}
use Rattle.number.specs.Digits.{Digits, value}
use Rattle.format_grammar.specs.Characters.{quotation_mark, apostrophe, opening_bracket, closing_bracket, comma, slash_sign, letter_x, letter_p, letter_s}
use Rattle.settings.specs.declared.SettingItem.{SettingItem}
use Rattle.settings.specs.declared.SettingItem.TheVariants as setting_item
use Rattle.format_items.specs.Items.{Number, number, Repeat, Field, Items, join}

-- the byte c stands at offset a
pub record At (s : List ℕ) (a c : ℕ) : Type 0 where
  pub within : a < length s
  pub is : get_or s a 0 ≡ c

-- the bytes from offset a up to offset b
unfoldable pub part : List ℕ → ℕ → ℕ → List ℕ
part s a b = take (b - a) (drop a s)

-- 'r, w, d, n are one to three digits'
pub record NumberAt (s : List ℕ) (a : ℕ) (n : Number) (b : ℕ) : Type 0 where
  pub some : a < b
  pub few : b ≤ a + 3
  pub within : b ≤ length s
  pub digits : Digits (part s a b)
  pub is : n ≡ number a (value (part s a b))

-- an optional repeat r
pub data RepeatAt (s : List ℕ) : ℕ → Repeat → ℕ → Type 0 where
  absent : {a : ℕ} → RepeatAt s a Repeat.absent a
  given : {a b : ℕ} {n : Number} → NumberAt s a n b → RepeatAt s a (Repeat.given n) b

-- 'Field: Iw, Fw.d, Lw, A or Aw.'
pub data FieldAt (s : List ℕ) : ℕ → Field Number → ℕ → Type 0 where
  I : {a b : ℕ} {w : Number} → At s a letter_i → NumberAt s (a + 1) w b → FieldAt s a (Field.I w) b
  F : {a b c : ℕ} {w d : Number} → At s a letter_f → NumberAt s (a + 1) w b → At s b decimal_point → NumberAt s (b + 1) d c → FieldAt s a (Field.F w d) c
  L : {a b : ℕ} {w : Number} → At s a letter_l → NumberAt s (a + 1) w b → FieldAt s a (Field.L w) b
  A : {a : ℕ} → At s a letter_a → FieldAt s a Field.A (a + 1)
  Aw : {a b : ℕ} {w : Number} → At s a letter_a → NumberAt s (a + 1) w b → FieldAt s a (Field.Aw w) b

-- 'between apostrophes or between quotation marks'
abbrev pub Mark : ℕ → Type 0
Mark m = (m ≡ apostrophe) ⊎ (m ≡ quotation_mark)

-- 'the enclosing mark is doubled inside'
unfoldable pub doubled : ℕ → List ℕ → List ℕ
doubled m [] = []
doubled m (c ∷ cs) = cond (eqb c m) (m ∷ m ∷ doubled m cs) (c ∷ doubled m cs)

-- 'Literal: one or more characters', its marks m standing at a and at c. (In an item the mark at c cannot be the first half
-- of a doubled one, since a comma or a bracket must follow.)
pub record LiteralAt (s : List ℕ) (a : ℕ) (cs : List ℕ) (c : ℕ) : Type 0 where
  pub m : ℕ
  pub mark : Mark m
  pub opens : At s a m
  pub between : part s (a + 1) c ≡ doubled m cs
  pub closes : At s c m
  pub after : a < c
  pub printable : Printable cs
  pub some : 0 < length cs

-- SP, SS and S. (In an item an S before P or S is not the item S, since a comma or a bracket must follow.)
pub data SettingAt (s : List ℕ) : ℕ → SettingItem → ℕ → Type 0 where
  SP : {a : ℕ} → At s a letter_s → At s (a + 1) letter_p → SettingAt s a setting_item.SP (a + 2)
  SS : {a : ℕ} → At s a letter_s → At s (a + 1) letter_s → SettingAt s a setting_item.SS (a + 2)
  S : {a : ℕ} → At s a letter_s → SettingAt s a setting_item.S (a + 1)

-- 'a group of level 4 holds no group'
abbrev pub levels : ℕ
levels = 4

-- what is derived: one item, or one or more. (One relation with this index stands for the two of docs/RULES.md, item and items.)
pub data Nonterminal : Type 0 where
  item items : Nonterminal

-- the productions, where l levels of groups may open: all directly in the format, one fewer in each group, so none in a group of
-- level 4
pub data Derives (s : List ℕ) : Nonterminal → ℕ → ℕ → Items → ℕ → Type 0 where
  -- 'a field, optionally with a repeat r before it'
  field : {l a b c : ℕ} {r : Repeat} {k : Field Number} → RepeatAt s a r b → FieldAt s b k c → Derives s item l a (Items.field r k Items.none) c
  -- 'a group ( items ), optionally with r'
  group : {l a b c : ℕ} {r : Repeat} {xs : Items} → RepeatAt s a r b → At s b opening_bracket → Derives s items l (b + 1) xs c → At s c closing_bracket
      → Derives s item (l + 1) a (Items.group r xs Items.none) (c + 1)
  -- 'nX'
  X : {l a b : ℕ} {n : Number} → NumberAt s a n b → At s b letter_x → Derives s item l a (Items.X n Items.none) (b + 1)
  -- 'Tn'
  T : {l a b : ℕ} {n : Number} → At s a letter_t → NumberAt s (a + 1) n b → Derives s item l a (Items.T n Items.none) b
  -- 'a slash, optionally with r'
  slash : {l a b : ℕ} {r : Repeat} → RepeatAt s a r b → At s b slash_sign → Derives s item l a (Items.slash r Items.none) (b + 1)
  -- 'a literal'
  literal : {l a c : ℕ} {cs : List ℕ} → LiteralAt s a cs c → Derives s item l a (Items.literal cs Items.none) (c + 1)
  -- 'SP, SS and S of FORTRAN 77 are items without repeat'
  setting : {l a b : ℕ} {k : SettingItem} → SettingAt s a k b → Derives s item l a (Items.setting k Items.none) b
  -- 'one or more items, a comma between any two'
  one : {l a b : ℕ} {x : Items} → Derives s item l a x b → Derives s items l a x b
  more : {l a b c : ℕ} {xs x : Items} → Derives s items l a xs b → At s b comma → Derives s item l (b + 1) x c → Derives s items l a (join xs x) c

-- 'Format: ( items )': the whole text
pub record Format (s : List ℕ) (xs : Items) : Type 0 where
  pub end : ℕ
  pub opens : At s 0 opening_bracket
  pub items : Derives s Nonterminal.items levels 1 xs end
  pub closes : At s end closing_bracket
  pub whole : length s ≡ end + 1

-- some grammatical text begins with t
pub record Begins (t : List ℕ) : Type 0 where
  pub rest : List ℕ
  pub read : Items
  pub format : Format (t ++ rest) read

-- refusal 3's place: 'length of the longest beginning that some grammatical text shares, ranges and the 1,024 aside'
pub record LongestShared (s : List ℕ) (p : ℕ) : Type 0 where
  pub within : p ≤ length s
  pub shared : Begins (take p s)
  pub longest : (n : ℕ) → p < n → n ≤ length s → Begins (take n s) → ⊥
