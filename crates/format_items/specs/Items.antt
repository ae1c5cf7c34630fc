-- The rules, 'The format' and 'Plus signs': items as a tree.
-- Assumes nothing.
use Rattle.std.specs.Prelude.{List, ℕ}
use Rattle.settings.specs.declared.SettingItem.{SettingItem}

-- r, w, d or n as it stands in a format: the offset of its first digit, and its value
pub data Number : Type 0 where
  number : (offset value : ℕ) → Number

abbrev pub offset : Number → ℕ
offset (number a v) = a

abbrev pub value_of : Number → ℕ
value_of (number a v) = v

-- 'optionally with a repeat r'
pub data Repeat : Type 0 where
  absent : Repeat
  given : Number → Repeat

-- 'An absent r is 1.'
abbrev pub times : Repeat → ℕ
times absent = 1
times (given r) = value_of r

-- 'Field: Iw, Fw.d, Lw, A or Aw', its numbers being of the type N: a `Number` in the tree, a value alone where it is met
pub data Field (N : Type 0) : Type 0 where
  I : (w : N) → Field N
  F : (w d : N) → Field N
  L : (w : N) → Field N
  A : Field N
  Aw : (w : N) → Field N

-- 'Item: a field, optionally with a repeat r before it; a group ( items ), optionally with r; nX; Tn; a slash, optionally
-- with r; a literal'; and 'SP, SS and S .. are items without repeat'. An item carries the items that follow it, so one item alone has
-- `none` after it; `none` itself stands for no item, of which no format is made ('one or more items').
pub data Items : Type 0 where
  none : Items
  field : (r : Repeat) → Field Number → (next : Items) → Items
  group : (r : Repeat) → (inside : Items) → (next : Items) → Items
  X : (n : Number) → (next : Items) → Items
  T : (n : Number) → (next : Items) → Items
  slash : (r : Repeat) → (next : Items) → Items
  literal : (characters : List ℕ) → (next : Items) → Items
  setting : (item : SettingItem) → (next : Items) → Items

-- items, and others after them
unfoldable pub join : Items → Items → Items
join none ys = ys
join (field r k xs) ys = field r k (join xs ys)
join (group r inside xs) ys = group r inside (join xs ys)
join (X n xs) ys = X n (join xs ys)
join (T n xs) ys = T n (join xs ys)
join (slash r xs) ys = slash r (join xs ys)
join (literal cs xs) ys = literal cs (join xs ys)
join (setting k xs) ys = setting k (join xs ys)
