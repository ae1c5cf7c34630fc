-- What the passes of writing over the walk are given and answer. (Nothing here need be believed: the public call's contract does
-- not speak of it.)
-- Assumes nothing.
use Rattle.std.specs.Prelude.{◌≡◌, Bool, false, true, List, ℕ, ◌+◌, ◌≤◌, Option, Some, None, IfSome, Result, Ok, Err, length, take}
use Rattle.std.specs.List.{list_any}
use Rattle.settings.specs.Settings.{start_settings}
use Rattle.settings.specs.declared.SettingItem.TheVariants.{SP, SS, S}
use Rattle.format_items.specs.Items.{Field}
use Rattle.format_items.specs.Met.{Met}
use Rattle.format_items.specs.MetRanges.{MetWithin}
use Rattle.format_words.specs.Packing.{word_in}
use Rattle.format_words.specs.declared.packed.Packed.{Packed}
use Rattle.format_words.specs.declared.Word.{Word}
use Rattle.format_words.specs.declared.Word.TheVariants as word
use Rattle.list_elements.specs.Elements.{kind_of}
use Rattle.list_elements.specs.Checked.{values_in}
use Rattle.list_elements.specs.declared.Value.{Value}
use Rattle.sheet_walk.specs.Steps.{suits}
use Rattle.sheet_walk.specs.Walk.{Trace, done, walk}
use Rattle.sheet_walk.specs.Laid.{laid}
use Rattle.sheet_walk.specs.Given.{given_sheet, PlacesAre}
use Rattle.sheet_walk.specs.Followed.{Begins}
use Rattle.sheet_walk.specs.declared.Cover.{Cover}
use Rattle.sheet_walk.specs.declared.Refusal.{Refusal}
use Rattle.sheet_walk.specs.declared.Refusal.TheVariants.{TooLarge}
use Rattle.write_passes.specs.declared.Sheet.{Sheet}
use Rattle.write_passes.specs.declared.checking.Checked.{Checked}
use Rattle.write_passes.specs.Placed.{characters, starred_in, field_too_large, Judged, accepted, refused, judged}

-- ---- a field, of which the code keeps the places after its point alone

-- a field that the value suits, with so many places
pub record FieldOf (v : Value) (d : ℕ) (f : Field ℕ) : Type 0 where
  pub suited : suits f (kind_of v) ≡ true
  pub places : PlacesAre d f
  pub within : MetWithin (Met.field f)

pub record SomeField (v : Value) (d : ℕ) : Type 0 where
  pub f : Field ℕ
  pub is : FieldOf v d f

-- for which it is not too large
pub record SomeSmallField (v : Value) (d : ℕ) : Type 0 where
  pub f : Field ℕ
  pub is : FieldOf v d f
  pub small : field_too_large f v ≡ false

-- ---- a sheet

-- its values, and its walk
abbrev pub values_of : Sheet → List Value
values_of s = values_in s.list

abbrev pub walk_of : Sheet → Trace
walk_of s = walk (given_sheet s.run s.list.elements.now s.records)

-- a part of its walk begins with these columns, so many elements being taken before
abbrev pub BeginsIn : Sheet → ℕ → List Cover → Trace → ℕ → Trace → Type 0
BeginsIn s first cs whole taken left = Begins (given_sheet s.run s.list.elements.now s.records) s.run.chars.now first cs whole taken left

pub record SomeBegins (s : Sheet) (first : ℕ) (cs : List Cover) : Type 0 where
  pub whole : Trace
  pub taken : ℕ
  pub left : Trace
  pub begins : BeginsIn s first cs whole taken left

-- some part of its walk begins with them, from where on it is accepted
pub record SomeSmallBegins (s : Sheet) (first : ℕ) (cs : List Cover) : Type 0 where
  pub whole : Trace
  pub taken : ℕ
  pub left : Trace
  pub begins : BeginsIn s first cs whole taken left
  pub n : ℕ
  pub accepts : judged (values_of s) whole ≡ accepted n

-- ---- laying

-- where so many fields of these columns are starred: the stars of what is left of a walk that begins with them make up those of the whole
abbrev pub StarsLaid : Sheet → ℕ → List Cover → ℕ → Type 0
StarsLaid s first cs starred = (taken : ℕ) (whole left : Trace) → BeginsIn s first cs whole taken left → starred + starred_in (values_of s) left ≡ starred_in (values_of s) whole

-- a walk laid in a buffer
abbrev pub laid_in : Sheet → Trace → List ℕ → List ℕ
laid_in s t buffer = laid s.records.width (characters s.list.area.now (values_of s)) t buffer

-- what covers these columns was laid: what is left of a walk that begins with them, laid in the buffer as it is, gives what the whole
-- gives in the buffer as it was
abbrev pub BytesLaid : Sheet → ℕ → List Cover → List ℕ → List ℕ → Type 0
BytesLaid s first cs was now = (taken : ℕ) (whole left : Trace) → BeginsIn s first cs whole taken left → laid_in s left now ≡ laid_in s whole was

-- the walk is accepted with the values, for some number of records
pub record SomeAccepted (s : Sheet) : Type 0 where
  pub n : ℕ
  pub accepts : judged (values_of s) (walk_of s) ≡ accepted n

-- ---- the check

-- the first element whose value is too large, as the code answers it, for a part of the walk and what is left after it
abbrev pub CheckedTo : Option ℕ → Judged → Judged → Type 0
CheckedTo (Some i) whole left = whole ≡ refused (TooLarge i)
CheckedTo None whole left = whole ≡ left

-- the first n columns are those of the whole walk, with so many records reached
pub record WholeIn (s : Sheet) (covers : List Cover) (records n : ℕ) : Type 0 where
  pub many : n ≤ length covers
  pub taken : ℕ
  pub begins : BeginsIn s 0 (take n covers) (walk_of s) taken (done records)

-- how the walk ends, as the code answers it
abbrev pub CheckedAs : Sheet → List Cover → Judged → Result Checked Refusal → Type 0
CheckedAs s covers j (Ok c) = (j ≡ accepted c.records) × IfSome c.whole (WholeIn s covers c.records)
CheckedAs s covers j (Err why) = j ≡ refused why

-- ---- items SP

-- whether a word is that of SP
abbrev pub word_is_sp : Word → Bool
word_is_sp (word.I w) = false
word_is_sp (word.F w d) = false
word_is_sp (word.L w) = false
word_is_sp word.A = false
word_is_sp (word.Aw w) = false
word_is_sp (word.X n) = false
word_is_sp (word.T n) = false
word_is_sp word.Slash = false
word_is_sp (word.Literal start n) = false
word_is_sp (word.Setting SP) = true
word_is_sp (word.Setting SS) = false
word_is_sp (word.Setting S) = false

-- whether some word is
abbrev pub sp_among : List Packed → Bool
sp_among ws = list_any (λ p. word_is_sp (word_in p)) ws

-- columns covered under the settings at the start
abbrev pub IsPlain : Cover → Type 0
IsPlain c = c.settings ≡ start_settings
