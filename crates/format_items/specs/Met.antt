-- The rules, 'The walk': the items met, and the part that the walk returns to.
-- Assumes nothing.
use Rattle.std.specs.Prelude.{Bool, true, false, cond, List, [], ◌∷◌, ◌++◌, ℕ, zero, suc, ◌-◌, length, replicate}
use Rattle.settings.specs.declared.SettingItem.{SettingItem}
use Rattle.format_items.specs.Items.{Number, value_of, times, Field, Items}

-- an item met: no repeat, no group
pub data Met : Type 0 where
  field : Field ℕ → Met
  X : (n : ℕ) → Met
  T : (n : ℕ) → Met
  slash : Met
  literal : (characters : List ℕ) → Met
  setting : (item : SettingItem) → Met

-- a field with the values of its numbers
abbrev pub field_values : Field Number → Field ℕ
field_values (Field.I w) = Field.I (value_of w)
field_values (Field.F w d) = Field.F (value_of w) (value_of d)
field_values (Field.L w) = Field.L (value_of w)
field_values Field.A = Field.A
field_values (Field.Aw w) = Field.Aw (value_of w)

-- a list n times
unfoldable pub repeat : {A : Type 0} → ℕ → List A → List A
repeat zero xs = []
repeat (suc n) xs = xs ++ repeat n xs

-- 'Items are met in order, repeats included.'
unfoldable pub met : Items → List Met
met Items.none = []
met (Items.field r k xs) = replicate (times r) (Met.field (field_values k)) ++ met xs
met (Items.group r inside xs) = repeat (times r) (met inside) ++ met xs
met (Items.X n xs) = Met.X (value_of n) ∷ met xs
met (Items.T n xs) = Met.T (value_of n) ∷ met xs
met (Items.slash r xs) = replicate (times r) Met.slash ++ met xs
met (Items.literal cs xs) = Met.literal cs ∷ met xs
met (Items.setting k xs) = Met.setting k ∷ met xs

-- a group stands among the items themselves (for a format's items: a group of level 1)
unfoldable pub has_group : Items → Bool
has_group Items.none = false
has_group (Items.field r k xs) = has_group xs
has_group (Items.group r inside xs) = true
has_group (Items.X n xs) = has_group xs
has_group (Items.T n xs) = has_group xs
has_group (Items.slash r xs) = has_group xs
has_group (Items.literal cs xs) = has_group xs
has_group (Items.setting k xs) = has_group xs

-- 'the rightmost group of level 1 with its repeat, through the end of the format'
unfoldable pub from_last_group : Items → Items
from_last_group Items.none = Items.none
from_last_group (Items.field r k xs) = from_last_group xs
from_last_group (Items.group r inside xs) = cond (has_group xs) (from_last_group xs) (Items.group r inside xs)
from_last_group (Items.X n xs) = from_last_group xs
from_last_group (Items.T n xs) = from_last_group xs
from_last_group (Items.slash r xs) = from_last_group xs
from_last_group (Items.literal cs xs) = from_last_group xs
from_last_group (Items.setting k xs) = from_last_group xs

-- the part that the walk returns to (the law `ReturnPartIs` of `Promises`): 'with no such group, .. the whole format'
unfoldable pub return_part : Items → Items
return_part xs = cond (has_group xs) (from_last_group xs) xs

-- where that part begins among the items met (the law `ReturnIndexIs` of `Promises`)
unfoldable pub return_index : Items → ℕ
return_index xs = length (met xs) - length (met (return_part xs))
