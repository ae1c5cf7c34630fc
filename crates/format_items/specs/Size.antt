-- The rules, 'The format': the size; and 'Plus signs': 'SP, SS and S .. are items .. of size 1'.
-- Assumes nothing.
use Rattle.std.specs.Prelude.{ℕ, ◌+◌, ◌*◌}
use Rattle.format_items.specs.Items.{times, Items, none, field, group, X, T, slash, literal, setting}

-- 'The size of a group is r times the sum of its items' sizes; a field or slash has size r, other items size 1. The format's
-- size is the sum over its items'
unfoldable pub size : Items → ℕ
size none = 0
size (field r k xs) = times r + size xs
size (group r inside xs) = times r * size inside + size xs
size (X n xs) = 1 + size xs
size (T n xs) = 1 + size xs
size (slash r xs) = times r + size xs
size (literal cs xs) = 1 + size xs
size (setting k xs) = 1 + size xs

-- 'at most 4,096'
abbrev pub largest_size : ℕ
largest_size = 4096
