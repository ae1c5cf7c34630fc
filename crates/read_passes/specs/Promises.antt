-- What the theorem of proofs/SettingLaws.antt says of reading.
-- Assumes nothing.
use Rattle.std.specs.Prelude.{◌≡◌, List, map, ℕ}
use Rattle.settings.specs.declared.SettingItem.TheVariants.{SS}
use Rattle.format_items.specs.Met.{Met}
use Rattle.sheet_walk.specs.Walk.{Sheet, walk}
use Rattle.read_passes.specs.Given.{gathered}

-- ---- 'Reading ignores the setting': with SS in place of every SP and S, reading gives the same

-- an item as it is, but SS for any of SP, SS and S
abbrev pub unset : Met → Met
unset (Met.field f) = Met.field f
unset (Met.X n) = Met.X n
unset (Met.T n) = Met.T n
unset Met.slash = Met.slash
unset (Met.literal cs) = Met.literal cs
unset (Met.setting k) = Met.setting SS

-- the sheet with such items
abbrev pub unset_sheet : Sheet → Sheet
unset_sheet h = record { items = map unset h.items; part = map unset h.part; kinds = h.kinds; records = h.records }

-- what is gathered from the bytes of records R wide is the same
abbrev pub SettingIgnored : Type 0
SettingIgnored = (h : Sheet) (R : ℕ) (bytes : List ℕ) → gathered R h.kinds bytes (walk (unset_sheet h)) ≡ gathered R h.kinds bytes (walk h)
