-- The items that entries hold.
-- Assumes nothing.
use Rattle.std.specs.Prelude.{◌≡◌, List, [], ◌∷◌, ◌++◌, ℕ, ◌+◌, length}
use Rattle.settings.specs.declared.SettingItem.{SettingItem}
use Rattle.format_items.specs.Items.{Number, value_of, Repeat, times, Field, Items}
use Rattle.format_items.specs.Met.{Met, field_values}
use Rattle.format_words.specs.Words.{met_in, RunPacked}
use Rattle.format_words.specs.declared.packed.Packed.{Packed}
use Rattle.format_words.specs.declared.Entry.{Entry}
use Rattle.format_words.specs.declared.Entry.TheVariants as entry

-- the items begin with an item that is no group, met so many times, and others follow
pub data First : Items → ℕ → Met → Items → Type 0 where
  field : {r : Repeat} {k : Field Number} {xs : Items} → First (Items.field r k xs) (times r) (Met.field (field_values k)) xs
  X : {n : Number} {xs : Items} → First (Items.X n xs) 1 (Met.X (value_of n)) xs
  T : {n : Number} {xs : Items} → First (Items.T n xs) 1 (Met.T (value_of n)) xs
  slash : {r : Repeat} {xs : Items} → First (Items.slash r xs) (times r) Met.slash xs
  literal : {cs : List ℕ} {xs : Items} → First (Items.literal cs xs) 1 (Met.literal cs) xs
  setting : {k : SettingItem} {xs : Items} → First (Items.setting k xs) 1 (Met.setting k) xs

-- the entries hold the items, in which l levels of groups may open; the characters of literals are among the first c of t
pub data Holds (t : List ℕ) (c : ℕ) : ℕ → List Entry → Items → Type 0 where
  none : {l : ℕ} → Holds t c l [] Items.none
  item : {l r : ℕ} {w : Packed} {rest : List Entry} {xs next : Items}
      → First xs r (met_in t w) next → RunPacked c w → Holds t c l rest next → Holds t c l (entry.Item r w ∷ rest) xs
  group : {l n k : ℕ} {r : Repeat} {one two rest : List Entry} {inside next : Items} → n ≡ length one → k ≡ times r → rest ≡ one ++ two
      → Holds t c l one inside → Holds t c (l + 1) two next → Holds t c (l + 1) (entry.Group n k ∷ rest) (Items.group r inside next)

-- the entries hold some items
pub record SomeItems (es : List Entry) (l : ℕ) : Type 0 where
  pub t : List ℕ
  pub c : ℕ
  pub items : Items
  pub holds : Holds t c l es items
