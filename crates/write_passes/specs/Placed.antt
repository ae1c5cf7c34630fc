-- The rules, 'Fields written' and 'Plus signs': what each placement of the walk puts into its columns in writing.
-- Assumes nothing.
use Rattle.std.specs.Prelude.{Bool, false, cond, List, ℕ, ◌+◌, ℤ, pos, get_or}
use Rattle.number.specs.Rounding.{rounded_units, too_large}
use Rattle.settings.specs.declared.Settings.{Settings}
use Rattle.field_written.specs.Numeral.{Numeric}
use Rattle.field_written.specs.Written.{field, starred, decimal_field}
use Rattle.field_written.specs.LogicalField.{logical_field}
use Rattle.field_written.specs.TextField.{text_field}
use Rattle.format_items.specs.Items.{Field}
use Rattle.list_elements.specs.Elements.{zero_value, text_bytes}
use Rattle.list_elements.specs.declared.Decimal.{Decimal}
use Rattle.list_elements.specs.declared.Text.{Text}
use Rattle.list_elements.specs.declared.Value.{Value}
use Rattle.list_elements.specs.declared.Value.TheVariants as value
use Rattle.sheet_walk.specs.Steps.{What, element, literal, Placement}
use Rattle.sheet_walk.specs.Walk.{Trace, put, done, stopped}
use Rattle.sheet_walk.specs.declared.Refusal.{Refusal}
use Rattle.sheet_walk.specs.declared.Refusal.TheVariants.{TooLarge}

-- ---- the data of a value; a field meets a value of its own kind only (row 7), so that the others do not matter

abbrev pub integer_of : Value → ℤ
integer_of (value.Integer n) = n
integer_of (value.Decimal x) = pos 0
integer_of (value.Logical b) = pos 0
integer_of (value.Text t) = pos 0

abbrev pub decimal_of : Value → Decimal
decimal_of (value.Integer n) = record { units = pos 0; places = 0 }
decimal_of (value.Decimal x) = x
decimal_of (value.Logical b) = record { units = pos 0; places = 0 }
decimal_of (value.Text t) = record { units = pos 0; places = 0 }

abbrev pub logical_of : Value → Bool
logical_of (value.Integer n) = false
logical_of (value.Decimal x) = false
logical_of (value.Logical b) = b
logical_of (value.Text t) = false

abbrev pub span_of : Value → Text
span_of (value.Integer n) = record { start = 0; len = 0 }
span_of (value.Decimal x) = record { start = 0; len = 0 }
span_of (value.Logical b) = record { start = 0; len = 0 }
span_of (value.Text t) = t

-- ---- the field of a value, w columns wide, under settings

-- its characters
unfoldable pub field_characters : List ℕ → Settings → Field ℕ → ℕ → Value → List ℕ
field_characters area g (Field.I _) w v = field g.signs Numeric.I w (integer_of v)
field_characters area g (Field.F _ d) w v = decimal_field g.signs w d (decimal_of v).units (decimal_of v).places
field_characters area g (Field.L _) w v = logical_field w (logical_of v)
field_characters area g Field.A w v = text_field w (text_bytes area (span_of v))
field_characters area g (Field.Aw _) w v = text_field w (text_bytes area (span_of v))

-- 'A numeric field is starred when it puts w asterisks'
unfoldable pub field_starred : Settings → Field ℕ → ℕ → Value → Bool
field_starred g (Field.I _) w v = starred g.signs Numeric.I w (integer_of v)
field_starred g (Field.F _ d) w v = starred g.signs (Numeric.F d) w (rounded_units (decimal_of v).units (decimal_of v).places d)
field_starred g (Field.L _) w v = false
field_starred g Field.A w v = false
field_starred g (Field.Aw _) w v = false

-- row 11: 'rounded units too large'
unfoldable pub field_too_large : Field ℕ → Value → Bool
field_too_large (Field.I _) v = false
field_too_large (Field.F _ d) v = too_large (decimal_of v).units (decimal_of v).places d
field_too_large (Field.L _) v = false
field_too_large Field.A v = false
field_too_large (Field.Aw _) v = false

-- ---- the placements of a walk, the list having the values vs, and its texts being in the area

-- the value at a place
abbrev pub value_at : List Value → ℕ → Value
value_at vs i = get_or vs i zero_value

abbrev pub characters_of : List ℕ → List Value → Settings → ℕ → What → List ℕ
characters_of area vs g w (element i f) = field_characters area g f w (value_at vs i)
characters_of area vs g w (literal cs) = cs

abbrev pub characters : List ℕ → List Value → Placement → List ℕ
characters area vs p = characters_of area vs p.settings p.width p.what

abbrev pub starred_of : List Value → Settings → ℕ → What → Bool
starred_of vs g w (element i f) = field_starred g f w (value_at vs i)
starred_of vs g w (literal cs) = false

abbrev pub is_starred : List Value → Placement → Bool
is_starred vs p = starred_of vs p.settings p.width p.what

-- the number of starred fields, 'overwritten or not'
unfoldable pub starred_in : List Value → Trace → ℕ
starred_in vs (put p t) = cond (is_starred vs p) 1 0 + starred_in vs t
starred_in vs (done n) = 0
starred_in vs (stopped why) = 0

-- ---- the check of values, put over the walk: 'the first refusal on the walk counts'

-- how a walk ends in writing
pub data Judged : Type 0 where
  accepted : (records : ℕ) → Judged
  refused : Refusal → Judged

-- the value of a placement is checked when it is met, after its kind and its columns; what follows is given
abbrev pub judged_at : List Value → What → Judged → Judged
judged_at vs (element i f) rest = cond (field_too_large f (value_at vs i)) (refused (TooLarge i)) rest
judged_at vs (literal cs) rest = rest

unfoldable pub judged : List Value → Trace → Judged
judged vs (put p t) = judged_at vs p.what (judged vs t)
judged vs (done n) = accepted n
judged vs (stopped why) = refused why
