-- The rules, 'The format': the ranges of numbers and the characters of literals, for items met.
-- Assumes nothing.
use Rattle.std.specs.Prelude.{List, [], ◌∷◌, ℕ, ◌<◌, length}
use Rattle.std.specs.Coded.{×_prop, Unit-prop, le_prop}
use mathlib.Core.HLevel.{×₃_prop}
use Rattle.buffer.specs.Characters.{Printable}
use Rattle.format_items.specs.Items.{number, Field}
use Rattle.format_items.specs.Ranges.{range_n, range_w, range_d, Within}
use Rattle.format_items.specs.Met.{Met}

-- an item met has its numbers within their ranges, and a literal its characters. (Here a number's offset does not matter.)
abbrev pub MetWithin : Met → Type 0
MetWithin (Met.field (Field.I w)) = Within (range_w (number 0 w))
MetWithin (Met.field (Field.F w d)) = Within (range_w (number 0 w)) × Within (range_d (number 0 d))
MetWithin (Met.field (Field.L w)) = Within (range_w (number 0 w))
MetWithin (Met.field Field.A) = Unit {0}
MetWithin (Met.field (Field.Aw w)) = Within (range_w (number 0 w))
MetWithin (Met.X n) = Within (range_n (number 0 n))
MetWithin (Met.T n) = Within (range_n (number 0 n))
MetWithin Met.slash = Unit {0}
MetWithin (Met.literal cs) = (0 < length cs) × Printable cs
MetWithin (Met.setting k) = Unit {0}

-- every item met is so
abbrev pub AllMetWithin : List Met → Type 0
AllMetWithin [] = Unit {0}
AllMetWithin (k ∷ ks) = MetWithin k × AllMetWithin ks

-- ---- each is a fact with one proof at most, as a type's invariant has to be

pub Printable-prop : (cs : List ℕ) → IsProp (Printable cs)
Printable-prop [] = Unit-prop
Printable-prop (c ∷ cs) = ×₃_prop le_prop le_prop (Printable-prop cs)

pub MetWithin-prop : (k : Met) → IsProp (MetWithin k)
MetWithin-prop (Met.field (Field.I w)) = ×_prop le_prop le_prop
MetWithin-prop (Met.field (Field.F w d)) = ×_prop (×_prop le_prop le_prop) (×_prop le_prop le_prop)
MetWithin-prop (Met.field (Field.L w)) = ×_prop le_prop le_prop
MetWithin-prop (Met.field Field.A) = Unit-prop
MetWithin-prop (Met.field (Field.Aw w)) = ×_prop le_prop le_prop
MetWithin-prop (Met.X n) = ×_prop le_prop le_prop
MetWithin-prop (Met.T n) = ×_prop le_prop le_prop
MetWithin-prop Met.slash = Unit-prop
MetWithin-prop (Met.literal cs) = ×_prop le_prop (Printable-prop cs)
MetWithin-prop (Met.setting k) = Unit-prop

pub AllMetWithin-prop : (ks : List Met) → IsProp (AllMetWithin ks)
AllMetWithin-prop [] = Unit-prop
AllMetWithin-prop (k ∷ ks) = ×_prop (MetWithin-prop k) (AllMetWithin-prop ks)
