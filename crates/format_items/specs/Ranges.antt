-- The rules, 'The format': 'Ranges: r, and n in X and T, 1 to 255; w 1 to 64; d 0 to 9.'
-- Assumes nothing.
use Rattle.std.specs.Prelude.{Bool, ◌||◌, cond, List, [], ◌∷◌, ◌++◌, ℕ, ◌≤◌, ltb, Option, Some, None}
use Rattle.format_items.specs.Items.{Number, offset, value_of, Repeat, absent, given, Field, I, F, L, A, Aw, Items, none, field, group, X, T, slash, literal, setting}

-- a number and its range, both ends included
pub data Ranged : Type 0 where
  ranged : Number → (low high : ℕ) → Ranged

-- 'r, and n in X and T, 1 to 255'
abbrev pub range_r : Number → Ranged
range_r r = ranged r 1 255

abbrev pub range_n : Number → Ranged
range_n n = range_r n

-- 'w 1 to 64'
abbrev pub range_w : Number → Ranged
range_w w = ranged w 1 64

-- 'd 0 to 9'
abbrev pub range_d : Number → Ranged
range_d d = ranged d 0 9

-- the number of a repeat, and those of a field
abbrev pub repeat_numbers : Repeat → List Ranged
repeat_numbers absent = []
repeat_numbers (given r) = range_r r ∷ []

abbrev pub field_numbers : Field Number → List Ranged
field_numbers (I w) = range_w w ∷ []
field_numbers (F w d) = range_w w ∷ range_d d ∷ []
field_numbers (L w) = range_w w ∷ []
field_numbers A = []
field_numbers (Aw w) = range_w w ∷ []

-- the numbers of items in the order in which they stand (the law `NumbersInOrder` of `format_grammar`)
unfoldable pub numbers : Items → List Ranged
numbers none = []
numbers (field r k xs) = repeat_numbers r ++ field_numbers k ++ numbers xs
numbers (group r inside xs) = repeat_numbers r ++ numbers inside ++ numbers xs
numbers (X n xs) = range_n n ∷ numbers xs
numbers (T n xs) = range_n n ∷ numbers xs
numbers (slash r xs) = repeat_numbers r ++ numbers xs
numbers (literal cs xs) = numbers xs
numbers (setting k xs) = numbers xs

-- a number is within its range
abbrev pub Within : Ranged → Type 0
Within (ranged n low high) = (low ≤ value_of n) × (value_of n ≤ high)

-- every number is
abbrev pub AllWithin : List Ranged → Type 0
AllWithin [] = Unit {0}
AllWithin (n ∷ ns) = Within n × AllWithin ns

-- 'a number out of range'
abbrev pub outside : Ranged → Bool
outside (ranged n low high) = ltb (value_of n) low || ltb high (value_of n)

-- where it stands
abbrev pub place : Ranged → ℕ
place (ranged n low high) = offset n

-- 'offset of the first such number', if there is one
unfoldable pub first_outside : List Ranged → Option ℕ
first_outside [] = None
first_outside (n ∷ ns) = cond (outside n) (Some (place n)) (first_outside ns)
