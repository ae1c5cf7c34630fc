-- What the pass of reading finds, and the list made of it. (Nothing here need be believed: the public call's contract does not
-- speak of it.)
-- Assumes nothing.
use Rattle.std.specs.Prelude.{◌≡◌, Bool, cond, List, ◌++◌, ℕ, ◌+◌, ◌<◌, ◌≤◌, pos, length, get_or, Option, Some, None, Result, Ok, Err}
use Rattle.field_written.specs.Numeral.{Numeric}
use Rattle.field_read.specs.Read.{read_field}
use Rattle.field_read.specs.LogicalRead.{logical_read}
use Rattle.field_read.specs.TextRead.{text_readable, text_read}
use Rattle.field_read.specs.declared.Number.{Number}
use Rattle.list_elements.specs.Elements as kind
use Rattle.list_elements.specs.Elements.{Kind, text_length, zero_value, value_of, text_bytes, kinds_of, most_elements}
use Rattle.list_elements.specs.Limits.{texts_length}
use Rattle.list_elements.specs.Contents as content
use Rattle.list_elements.specs.Contents.{Content, content_kind}
use Rattle.list_elements.specs.declared.Value.{Value}
use Rattle.list_elements.specs.declared.Value.TheVariants as value
use Rattle.list_elements.specs.declared.Element.{Element}
use Rattle.sheet_walk.specs.Walk.{Trace, walk}
use Rattle.sheet_walk.specs.Given.{given_sheet}
use Rattle.sheet_walk.specs.Followed.{Begins}
use Rattle.sheet_walk.specs.declared.Cover.{Cover}
use Rattle.sheet_walk.specs.declared.Refusal.{Refusal}
use Rattle.sheet_walk.specs.declared.Refusal.TheVariants.{FieldText}
use Rattle.read_passes.specs.declared.Sheet.{Sheet}
use Rattle.read_passes.specs.Given.{Gathered, accepted, refused, kind_at, gathered}
use Rattle.sheet_walk.specs.Steps.{widest_record}

-- ---- one field

abbrev pub integer_found : Option Number → Option Value
integer_found (Some n) = Some (value.Integer n.units)
integer_found None = None

abbrev pub decimal_found : Option Number → Option Value
decimal_found (Some n) = Some (value.Decimal (record { units = n.units; places = n.places }))
decimal_found None = None

abbrev pub logical_found : Option Bool → Option Value
logical_found (Some b) = Some (value.Logical b)
logical_found None = None

-- of a text, where its field stands in the records
abbrev pub text_found : List ℕ → ℕ → Option Value
text_found t at = cond (text_readable t) (Some (value.Text (record { start = at; len = length t }))) None

-- for an element of a kind, under a field with so many places
abbrev pub found_in : Kind → ℕ → List ℕ → ℕ → Option Value
found_in kind.integer d t at = integer_found (read_field Numeric.I t)
found_in kind.decimal d t at = decimal_found (read_field (Numeric.F d) t)
found_in kind.logical d t at = logical_found (logical_read t)
found_in (kind.text m) d t at = text_found t at

-- ---- what it holds

-- a text of m characters, read from its field
abbrev pub content_found : List ℕ → ℕ → Value → Content
content_found records m (value.Integer n) = content.integer n
content_found records m (value.Decimal d) = content.decimal d.units d.places
content_found records m (value.Logical b) = content.logical b
content_found records m (value.Text t) = content.text (text_read m (text_bytes records t))

-- the field of a text lies in the records
abbrev pub field_inside : List ℕ → Value → Type 0
field_inside records (value.Integer n) = Unit
field_inside records (value.Decimal d) = Unit
field_inside records (value.Logical b) = Unit
field_inside records (value.Text t) = t.start + t.len ≤ length records

-- and is no wider than a record
abbrev pub field_narrow : Value → Type 0
field_narrow (value.Integer n) = Unit
field_narrow (value.Decimal d) = Unit
field_narrow (value.Logical b) = Unit
field_narrow (value.Text t) = t.len ≤ widest_record

-- the content c was found, an element of the kind k being wanted
pub record FoundAs (records : List ℕ) (k : Kind) (v : Value) (c : Content) : Type 0 where
  pub is : content_found records (text_length k) v ≡ c
  pub of_kind : content_kind c ≡ k
  pub inside : field_inside records v
  pub narrow : field_narrow v

-- ---- the whole walk

-- the first elements hold cs
abbrev pub FoundSoFar : List ℕ → List Kind → List Element → List Content → Type 0
FoundSoFar records kinds found cs =
    (j : ℕ) → j < length cs → FoundAs records (kind_at kinds j) (value_of (get_or found j (record { value = zero_value }))) (get_or cs j (content.integer (pos 0)))

-- how reading along a walk ends, as the code answers it
abbrev pub ending_of : Gathered → Result ℕ Refusal
ending_of (accepted cs n) = Ok n
ending_of (refused why) = Err why

-- the walk of a sheet, and what is gathered on one
abbrev pub walk_of : Sheet → Trace
walk_of s = walk (given_sheet s.run s.wanted.now s.records)

abbrev pub gathered_of : Sheet → Trace → Gathered
gathered_of s t = gathered s.records.width (kinds_of s.wanted.now) s.bytes.now t

-- ---- a part of the walk

-- it begins with these columns, so many elements being taken before
abbrev pub BeginsIn : Sheet → ℕ → List Cover → Trace → ℕ → Trace → Type 0
BeginsIn s first cs whole taken left = Begins (given_sheet s.run s.wanted.now s.records) s.run.chars.now first cs whole taken left

pub record SomeBegins (s : Sheet) (first : ℕ) (cs : List Cover) : Type 0 where
  pub whole : Trace
  pub taken : ℕ
  pub left : Trace
  pub begins : BeginsIn s first cs whole taken left

-- what was gathered before the rest
abbrev pub joined : List Content → Gathered → Gathered
joined cs (accepted ds n) = accepted (cs ++ ds) n
joined cs (refused why) = refused why

-- the elements taken hold cs, and what is left of the walk gives, after them, what the whole gives
pub record Gathering (s : Sheet) (whole : Trace) (taken : ℕ) (left : Trace) (found : List Element) : Type 0 where
  pub cs : List Content
  pub many : length cs ≡ taken
  pub so_far : FoundSoFar s.bytes.now (kinds_of s.wanted.now) found cs
  pub same : joined cs (gathered_of s left) ≡ gathered_of s whole

-- the first element whose field is no such field (row 12), as the code answers it
abbrev pub TookAs : Sheet → Trace → ℕ → Trace → List Element → Option ℕ → Type 0
TookAs s whole taken left found None = Gathering s whole taken left found
TookAs s whole taken left found (Some i) = gathered_of s whole ≡ refused (FieldText i)

-- ---- the list

-- what elements hold
abbrev pub Contents : Type 0
Contents = List Content

-- all elements hold cs, and an area of `room` bytes has room for their texts
pub record Found (records : List ℕ) (wanted found : List Element) (room : ℕ) (cs : List Content) : Type 0 where
  pub many : length cs ≡ length wanted
  pub few : length wanted ≤ most_elements
  pub long : length wanted ≤ length found
  pub fits : texts_length (kinds_of wanted) ≤ room
  pub each : FoundSoFar records (kinds_of wanted) found cs

pub record SomeFound (records : List ℕ) (wanted found : List Element) (room : ℕ) : Type 0 where
  pub cs : List Content
  pub held : Found records wanted found room cs
