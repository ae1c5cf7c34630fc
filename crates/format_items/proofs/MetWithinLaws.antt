-- Items met whose numbers are within their ranges.
-- Assumes nothing.
use mathlib.Core.List.{List, [], ◌∷◌, ◌++◌}
use Prim.Native.Nat.{ℕ, zero, suc}
use lib.ListN.{drop, replicate}
use Rattle.format_items.specs.Items.{Number, Field}
use Rattle.format_items.specs.Ranges.{field_numbers, AllWithin}
use Rattle.format_items.specs.Met.{Met, field_values, repeat}
use Rattle.format_items.specs.MetRanges.{MetWithin, AllMetWithin}

pub all_append : (ks ms : List Met) → AllMetWithin ks → AllMetWithin ms → AllMetWithin (ks ++ ms)
all_append [] ms g h = h
all_append (k ∷ ks) ms g h = (g.0, all_append ks ms g.1 h)

pub all_replicate : (n : ℕ) (k : Met) → MetWithin k → AllMetWithin (replicate n k)
all_replicate zero k h = tt
all_replicate (suc n) k h = (h, all_replicate n k h)

pub all_repeat : (n : ℕ) (ks : List Met) → AllMetWithin ks → AllMetWithin (repeat n ks)
unfolding repeat
all_repeat zero ks h = tt
all_repeat (suc n) ks h = all_append ks (repeat n ks) h (all_repeat n ks h)

pub drop_within : (ks : List Met) (i : ℕ) → AllMetWithin ks → AllMetWithin (drop i ks)
drop_within ks zero h = h
drop_within [] (suc i) h = tt
drop_within (k ∷ ks) (suc i) h = drop_within ks i h.1

pub field_within : (k : Field Number) → AllWithin (field_numbers k) → MetWithin (Met.field (field_values k))
field_within (Field.I w) h = h.0
field_within (Field.F w d) h = (h.0, h.1.0)
field_within (Field.L w) h = h.0
field_within Field.A h = tt
field_within (Field.Aw w) h = h.0
