-- What the first of some items adds to their size, to the items met and to their numbers.
-- Assumes nothing.
use mathlib.Core.Path.{◌≡◌, refl, ap}
use mathlib.Core.List.{[], ◌∷◌, ◌++◌}
use Prim.Native.Nat.{ℕ, zero, suc, ◌+◌, ◌*◌, ◌≤◌}
use native.Mathlib.Omega.{arith}
use lib.ListN.{replicate}
use Rattle.format_items.specs.Items.{Repeat, times, Items}
use Rattle.format_items.specs.Ranges.{numbers, repeat_numbers, field_numbers, AllWithin}
use Rattle.format_items.specs.Size.{size}
use Rattle.format_items.specs.Met.{Met, repeat, met, has_group, from_last_group}
use Rattle.format_items.proofs.RangeLaws.{within_left, within_right, times_some}
use Rattle.format_words.specs.Held.{First}

-- ---- a first item that is no group

-- what it adds to the size and to the items met, and that the groups are those that follow
pub record FirstAdds (xs next : Items) (r : ℕ) (k : Met) : Type 0 where
  pub size_is : size xs ≡ r + size next
  pub met_is : met xs ≡ replicate r k ++ met next
  pub group_is : has_group xs ≡ has_group next
  pub last_is : from_last_group xs ≡ from_last_group next

pub first_adds : {xs next : Items} {r : ℕ} {k : Met} → First xs r k next → FirstAdds xs next r k
unfolding size met has_group from_last_group
first_adds First.field = record { size_is = refl; met_is = refl; group_is = refl; last_is = refl }
first_adds First.X = record { size_is = refl; met_is = refl; group_is = refl; last_is = refl }
first_adds First.T = record { size_is = refl; met_is = refl; group_is = refl; last_is = refl }
first_adds First.slash = record { size_is = refl; met_is = refl; group_is = refl; last_is = refl }
first_adds First.literal = record { size_is = refl; met_is = refl; group_is = refl; last_is = refl }
first_adds First.setting = record { size_is = refl; met_is = refl; group_is = refl; last_is = refl }

pub repeat_one : {A : Type 0} (r : ℕ) (k : A) → repeat r (k ∷ []) ≡ replicate r k
unfolding repeat
repeat_one zero k = refl
repeat_one (suc r) k = ap (λ l. k ∷ l) (repeat_one r k)

-- ---- numbers in range

pub some_first : {xs next : Items} {r : ℕ} {k : Met} → First xs r k next → AllWithin (numbers xs) → 1 ≤ r
unfolding numbers
some_first (First.field {r} {k} {xs}) h =
    times_some r
    (within_left (repeat_numbers r) (field_numbers k) (within_left (repeat_numbers r ++ field_numbers k) (numbers xs) h))
some_first First.X h = omega arith
some_first First.T h = omega arith
some_first (First.slash {r} {xs}) h = times_some r (within_left (repeat_numbers r) (numbers xs) h)
some_first First.literal h = omega arith
some_first First.setting h = omega arith

pub within_first : {xs next : Items} {r : ℕ} {k : Met} → First xs r k next → AllWithin (numbers xs) → AllWithin (numbers next)
unfolding numbers
within_first (First.field {r} {k} {xs}) h = within_right (repeat_numbers r ++ field_numbers k) (numbers xs) h
within_first First.X h = h.1
within_first First.T h = h.1
within_first (First.slash {r} {xs}) h = within_right (repeat_numbers r) (numbers xs) h
within_first First.literal h = h
within_first First.setting h = h

-- ---- a group

module _ (r : Repeat) (inside next : Items) where
  pub size_group : size (Items.group r inside next) ≡ times r * size inside + size next
  unfolding size
  size_group = refl

  pub met_group : met (Items.group r inside next) ≡ repeat (times r) (met inside) ++ met next
  unfolding met
  met_group = refl

  module _ (h : AllWithin (numbers (Items.group r inside next))) where
    pub some_group : 1 ≤ times r
    unfolding numbers
    some_group =
        times_some r
        (within_left (repeat_numbers r) (numbers inside) (within_left (repeat_numbers r ++ numbers inside) (numbers next) h))

    pub within_inside : AllWithin (numbers inside)
    unfolding numbers
    within_inside =
        within_right (repeat_numbers r) (numbers inside) (within_left (repeat_numbers r ++ numbers inside) (numbers next) h)

    pub within_next : AllWithin (numbers next)
    unfolding numbers
    within_next = within_right (repeat_numbers r ++ numbers inside) (numbers next) h
