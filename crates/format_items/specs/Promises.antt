-- What the theorems of proofs/ say of items.
-- Assumes nothing.
use Rattle.std.specs.Prelude.{◌≡◌, List, ◌∷◌, ◌++◌, ℕ, length, drop}
use Rattle.format_items.specs.Items.{Repeat, Items, join}
use Rattle.format_items.specs.Ranges.{Ranged, place, Within, AllWithin}
use Rattle.format_items.specs.Size.{size}
use Rattle.format_items.specs.Met.{met, return_part, return_index}

-- ---- numbers and their ranges

-- the first number that is not within its range stands at offset p
pub record FirstOutsideAt (ns : List Ranged) (p : ℕ) : Type 0 where
  pub before : List Ranged
  pub n : Ranged
  pub after : List Ranged
  pub split : ns ≡ before ++ n ∷ after
  pub before_within : AllWithin before
  pub not_within : Within n → ⊥
  pub stands : place n ≡ p

-- ---- the items met

-- as many items are met as the size says, so at most 4,096 where the format is accepted
abbrev pub MetIsSize : Type 0
MetIsSize = (xs : Items) → length (met xs) ≡ size xs

-- no group stands among the items themselves
abbrev pub NoGroup : Items → Type 0
NoGroup xs = (before : Items) (r : Repeat) (inside after : Items) → xs ≡ join before (Items.group r inside after) → ⊥

-- the part to return to: all of the items where none is a group, else the rightmost group and what follows it
pub data ReturnsTo (xs : Items) : Items → Type 0 where
  whole : NoGroup xs → ReturnsTo xs xs
  last : (before : Items) {inside after : Items} {r : Repeat} → xs ≡ join before (Items.group r inside after) → NoGroup after → ReturnsTo xs (Items.group r inside after)

abbrev pub ReturnPartIs : Type 0
ReturnPartIs = (xs : Items) → ReturnsTo xs (return_part xs)

-- from the index on, the items met are those of the part
abbrev pub ReturnIndexIs : Type 0
ReturnIndexIs = (xs : Items) → drop (return_index xs) (met xs) ≡ met (return_part xs)
