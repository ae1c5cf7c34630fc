-- Items after one another: `join`, and what is read off them.
-- Assumes nothing.
use mathlib.Core.Path.{◌≡◌, refl, sym, ap}
use mathlib.Core.List.{◌++◌, append_assoc}
use Rattle.format_items.specs.Items.{Items, join}
use Rattle.format_items.specs.Ranges.{repeat_numbers, field_numbers, numbers}

pub join_assoc : (x y z : Items) → join (join x y) z ≡ join x (join y z)
unfolding join
join_assoc Items.none y z = refl
join_assoc (Items.field r k x) y z = ap (Items.field r k) (join_assoc x y z)
join_assoc (Items.group r w x) y z = ap (Items.group r w) (join_assoc x y z)
join_assoc (Items.X n x) y z = ap (Items.X n) (join_assoc x y z)
join_assoc (Items.T n x) y z = ap (Items.T n) (join_assoc x y z)
join_assoc (Items.slash r x) y z = ap (Items.slash r) (join_assoc x y z)
join_assoc (Items.literal cs x) y z = ap (Items.literal cs) (join_assoc x y z)
join_assoc (Items.setting k x) y z = ap (Items.setting k) (join_assoc x y z)

pub join_none : (x : Items) → join Items.none x ≡ x
unfolding join
join_none x = refl

pub join_right : (x : Items) → join x Items.none ≡ x
unfolding join
join_right Items.none = refl
join_right (Items.field r k x) = ap (Items.field r k) (join_right x)
join_right (Items.group r w x) = ap (Items.group r w) (join_right x)
join_right (Items.X n x) = ap (Items.X n) (join_right x)
join_right (Items.T n x) = ap (Items.T n) (join_right x)
join_right (Items.slash r x) = ap (Items.slash r) (join_right x)
join_right (Items.literal cs x) = ap (Items.literal cs) (join_right x)
join_right (Items.setting k x) = ap (Items.setting k) (join_right x)

pub numbers_join : (x y : Items) → numbers (join x y) ≡ numbers x ++ numbers y
unfolding join numbers
numbers_join Items.none y = refl
numbers_join (Items.field r k x) y = rw (numbers_join x y) (sym (append_assoc (repeat_numbers r ++ field_numbers k) (numbers x) (numbers y)))
numbers_join (Items.group r w x) y = rw (numbers_join x y) (sym (append_assoc (repeat_numbers r ++ numbers w) (numbers x) (numbers y)))
numbers_join (Items.X n x) y = rw (numbers_join x y)
numbers_join (Items.T n x) y = rw (numbers_join x y)
numbers_join (Items.slash r x) y = rw (numbers_join x y) (sym (append_assoc (repeat_numbers r) (numbers x) (numbers y)))
numbers_join (Items.literal cs x) y = numbers_join x y
numbers_join (Items.setting k x) y = numbers_join x y
