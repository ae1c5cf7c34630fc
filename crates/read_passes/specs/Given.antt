-- The rules, 'Fields read': what each placement of the walk gives in reading, and the shown value.
-- Assumes nothing.
use Rattle.std.specs.Prelude.{Bool, cond, List, [], ◌∷◌, ℕ, ℤ, get_or, Option, Some, None}
use Rattle.field_written.specs.Numeral.{Numeric}
use Rattle.field_read.specs.Read.{read_field, shown_integer, shown_units, shown_places}
use Rattle.field_read.specs.LogicalRead.{logical_read}
use Rattle.field_read.specs.TextRead.{text_readable, text_read, shown_text}
use Rattle.field_read.specs.declared.Number.{Number}
use Rattle.format_items.specs.Items.{Field}
use Rattle.list_elements.specs.Elements as kind
use Rattle.list_elements.specs.Elements.{Kind, text_length}
use Rattle.list_elements.specs.Contents.{Content, integer, decimal, logical, text}
use Rattle.sheet_walk.specs.Steps.{What, element, literal, Placement}
use Rattle.sheet_walk.specs.Walk.{Trace, put, done, stopped}
use Rattle.sheet_walk.specs.Laid.{columns}
use Rattle.sheet_walk.specs.declared.Refusal.{Refusal}
use Rattle.sheet_walk.specs.declared.Refusal.TheVariants.{FieldText}

-- ---- one field

-- what it gives: what its element then holds, or nothing (row 12, 'field not as above')
pub data Given : Type 0 where
  gives : Content → Given
  nothing : Given

abbrev pub integer_given : Option Number → Given
integer_given (Some n) = gives (integer n.units)
integer_given None = nothing

abbrev pub decimal_given : Option Number → Given
decimal_given (Some n) = gives (decimal n.units n.places)
decimal_given None = nothing

abbrev pub logical_given : Option Bool → Given
logical_given (Some b) = gives (logical b)
logical_given None = nothing

-- for a text of length m
abbrev pub text_given : ℕ → List ℕ → Given
text_given m t = cond (text_readable t) (gives (text (text_read m t))) nothing

-- the field t, for an element of the kind k. ('Reading ignores the setting': none is given here; the law `SettingIgnored` of `Promises`.)
unfoldable pub field_gives : Field ℕ → Kind → List ℕ → Given
field_gives (Field.I _) k t = integer_given (read_field Numeric.I t)
field_gives (Field.F _ d) k t = decimal_given (read_field (Numeric.F d) t)
field_gives (Field.L _) k t = logical_given (logical_read t)
field_gives Field.A k t = text_given (text_length k) t
field_gives (Field.Aw _) k t = text_given (text_length k) t

-- ---- the placements of a walk, over records R wide and wanted elements of these kinds

-- what the elements hold, in list order, with the number of records reached; or a refusal
pub data Gathered : Type 0 where
  accepted : List Content → (records : ℕ) → Gathered
  refused : Refusal → Gathered

-- an element in front of those that follow
abbrev pub in_front : Content → Gathered → Gathered
in_front c (accepted cs n) = accepted (c ∷ cs) n
in_front c (refused why) = refused why

-- element i, whose field gives this; what follows on the walk is given: 'the first refusal on the walk counts'
abbrev pub element_gathered : ℕ → Given → Gathered → Gathered
element_gathered i (gives c) rest = in_front c rest
element_gathered i nothing rest = refused (FieldText i)

-- the kind at a place
abbrev pub kind_at : List Kind → ℕ → Kind
kind_at kinds i = get_or kinds i kind.integer

-- a literal 'is passed over uncompared'
abbrev pub what_gathered : ℕ → List Kind → List ℕ → Placement → What → Gathered → Gathered
what_gathered R kinds records p (element i f) rest = element_gathered i (field_gives f (kind_at kinds i) (columns R p records)) rest
what_gathered R kinds records p (literal cs) rest = rest

unfoldable pub gathered : ℕ → List Kind → List ℕ → Trace → Gathered
gathered R kinds records (put p t) = what_gathered R kinds records p p.what (gathered R kinds records t)
gathered R kinds records (done n) = accepted [] n
gathered R kinds records (stopped why) = refused why

-- ---- Term 'shown value': of what an element holds, under a field w columns wide

-- 'decimal as rounded, with d places'; a decimal stands under F only (row 7)
abbrev pub shown_decimal : Field ℕ → ℤ → ℕ → Content
shown_decimal (Field.I _) u s = decimal u s
shown_decimal (Field.F _ d) u s = decimal (shown_units u s d) (shown_places u s d)
shown_decimal (Field.L _) u s = decimal u s
shown_decimal Field.A u s = decimal u s
shown_decimal (Field.Aw _) u s = decimal u s

-- 'integer and logical unchanged'; 'text .. unchanged, or its first w characters and blanks up to its length'
abbrev pub shown : Field ℕ → ℕ → Content → Content
shown f w (integer n) = integer (shown_integer n)
shown f w (decimal u s) = shown_decimal f u s
shown f w (logical b) = logical b
shown f w (text bytes) = text (shown_text w bytes)
