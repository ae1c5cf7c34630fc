-- What a walk goes by, as the code has it. (Nothing here need be believed: no public call's contract speaks of it.)
-- Assumes nothing.
use Rattle.std.specs.Prelude.{◌≡◌, Bool, cond, List, [], map, ℕ, ◌+◌, ◌/◌, ◌<◌, ◌≤◌, leb, Option, Some, None, Result, Ok, Err, length, take, drop}
use Rattle.format_items.specs.Items.{Field}
use Rattle.format_items.specs.Met.{Met}
use Rattle.format_items.specs.MetRanges.{MetWithin}
use Rattle.format_words.specs.Words.{met_of, met_in}
use Rattle.format_words.specs.Packing.{i_kind, f_kind, l_kind, aw_kind, literal_kind, kind_in, detail_in, columns_in}
use Rattle.format_words.specs.declared.packed.Packed.{Packed}
use Rattle.format_words.specs.declared.Word.{Word}
use Rattle.format_words.specs.declared.run.Run.{Run}
use Rattle.list_elements.specs.Elements.{Kind, integer, decimal, logical, text, kinds_of}
use Rattle.sheet_walk.specs.Steps.{Records, records_in, What, element, literal, suits, field_width, is_field}
use Rattle.list_elements.specs.declared.Element.{Element}
use Rattle.sheet_walk.specs.Walk.{Sheet}
use Rattle.sheet_walk.specs.Promises.{Suited}
use Rattle.sheet_walk.specs.declared.Refusal.{Refusal}
use Rattle.sheet_walk.specs.declared.Refusal.TheVariants.{NoRecord}
use Rattle.sheet_walk.specs.declared.records.Records as code

-- the items met
abbrev pub items_of : Run → List Met
items_of r = map (met_in r.chars.now) r.words.now

-- the columns that an item covers for an element of a kind, where it is a field that the kind suits
abbrev pub item_width : Met → Kind → Option ℕ
item_width (Met.field f) k = cond (suits f k) (Some (field_width f k)) None
item_width (Met.X n) k = None
item_width (Met.T n) k = None
item_width Met.slash k = None
item_width (Met.literal cs) k = None
item_width (Met.setting s) k = None

-- by its word. (Here the characters of literals do not matter.)
abbrev pub suited_width : Word → Kind → Option ℕ
suited_width w k = item_width (met_of [] w) k

-- the kind of the words of fields that an element's kind suits, A alone aside
abbrev pub kind_number : Kind → ℕ
kind_number integer = i_kind
kind_number decimal = f_kind
kind_number logical = l_kind
kind_number (text m) = aw_kind

-- the records of a buffer
abbrev pub records_of : code.Records → Records
records_of rs = record { width = rs.width; count = rs.count }

-- those that are R wide of a buffer of B bytes; or row 9, 'no record'
abbrev pub LentAs : ℕ → ℕ → Result code.Records Refusal → Type 0
LentAs R B (Ok rs) = records_of rs ≡ records_in R B
LentAs R B (Err why) = (why ≡ NoRecord) × (B / R ≡ 0)

-- what a walk goes by, with the items of a run, these elements and these records
abbrev pub run_sheet : Run → List Element → Records → Sheet
run_sheet r es rs = record { items = items_of r; part = drop r.back (items_of r); kinds = kinds_of es; records = rs }

abbrev pub given_sheet : Run → List Element → code.Records → Sheet
given_sheet r es rs = run_sheet r es (records_of rs)

-- ---- what covers columns, as the code keeps it: by a word

-- so many places after the point: those of an F
abbrev pub PlacesAre : ℕ → Field ℕ → Type 0
PlacesAre d (Field.I w) = Unit
PlacesAre d (Field.F w e) = d ≡ e
PlacesAre d (Field.L w) = Unit
PlacesAre d Field.A = Unit
PlacesAre d (Field.Aw w) = Unit

-- what the word k says of the field f, w columns wide: that it is no literal, the columns, and the places of an F
pub record KeepsField (k : Packed) (w : ℕ) (f : Field ℕ) : Type 0 where
  pub no_literal : kind_in k < literal_kind
  pub wide : columns_in k ≡ w
  pub places : PlacesAre (detail_in k) f

-- it keeps the literal cs, whose characters are among those of t
pub record KeepsLiteral (t : List ℕ) (k : Packed) (cs : List ℕ) : Type 0 where
  pub is_literal : literal_kind ≤ kind_in k
  pub inside : detail_in k + columns_in k ≤ length t
  pub are : cs ≡ take (columns_in k) (drop (detail_in k) t)

-- it keeps what covers w columns, where element `next` is the next one
abbrev pub Keeps : List ℕ → List Kind → ℕ → ℕ → Packed → What → Type 0
Keeps t kinds next w k (element i f) = (i ≡ next) × Suited kinds i f w × MetWithin (Met.field f) × KeepsField k w f
Keeps t kinds next w k (literal cs) = KeepsLiteral t k cs

-- how many elements that takes
abbrev pub takes : Packed → ℕ
takes k = cond (leb literal_kind (kind_in k)) 0 1

-- the elements that an item takes where the walk goes on: 1 for a field
abbrev pub fields_of : Met → ℕ
fields_of (Met.field f) = 1
fields_of (Met.X n) = 0
fields_of (Met.T n) = 0
fields_of Met.slash = 0
fields_of (Met.literal cs) = 0
fields_of (Met.setting k) = 0

-- whether a word is that of a field
abbrev pub word_is_field : Word → Bool
word_is_field w = is_field (met_of [] w)
