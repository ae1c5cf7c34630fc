-- The rules, 'Stars and reading back', word by word, over the walk and the numerals that the settings permit ('Plus signs').
-- Assumes nothing.
use Rattle.std.specs.Prelude.{◌≡◌, ◌↔◌, true, List, [], ◌∷◌, ◌++◌, map, ℕ, ◌*◌, ◌≤◌, length, take, get_or, replicate}
use Rattle.buffer.specs.Characters.{asterisk}
use Rattle.format_items.specs.Items.{Field}
use Rattle.list_elements.specs.Elements.{kind_of}
use Rattle.list_elements.specs.Limits.{texts_length}
use Rattle.list_elements.specs.Contents.{Content, content_of}
use Rattle.sheet_walk.specs.Steps.{What, element, literal, Placement}
use Rattle.sheet_walk.specs.Walk.{Trace, put, done, stopped}
use Rattle.sheet_walk.specs.Columns.{In, CoveredTwice}
use Rattle.write_passes.specs.Placed.{value_at, characters}
use Rattle.sheet_write.specs.Writing.{accepts}
use Rattle.sheet_write.specs.Promises as writing
use Rattle.sheet_write.specs.Promises.{numeric, NoNumeral, Counted, values_of, starred_number, records_number, buffer_after}
use Rattle.read_passes.specs.Given.{shown}
use Rattle.sheet_walk.specs.Answers.{answer_number, answer_place, answer_records}
use Rattle.sheet_read.specs.Promises as reading
use Rattle.sheet_read.specs.Promises.{kinds_of, answer_to, contents_after}

-- 'In every accepted writing': the call c is accepted, and t is its walk
abbrev pub Accepted : writing.Call → Trace → Type 0
Accepted c t = writing.becomes c ≡ accepts t (records_number c)

-- what a placement of the walk puts
abbrev pub puts : writing.Call → Placement → List ℕ
puts c p = characters c.area (values_of c) p

-- ---- starred fields

-- 'a numeric field puts asterisks in all its columns': the placement p is the field of element i, and does so
pub record Starred (c : writing.Call) (i : ℕ) (p : Placement) : Type 0 where
  pub f : Field ℕ
  pub is : p.what ≡ element i f
  pub is_numeric : numeric f ≡ true
  pub asterisks : puts c p ≡ replicate p.width asterisk

-- a placement that is such a field, of whatever element
abbrev pub StarredField : writing.Call → Placement → Type 0
StarredField c p = (i : ℕ) × Starred c i p

-- 'the element of the first starred one in list order'
pub record FirstStarred (c : writing.Call) (t : Trace) (i : ℕ) : Type 0 where
  pub p : Placement
  pub on_walk : In p t
  pub starred : Starred c i p
  pub first : (j : ℕ) (q : Placement) → In q t → Starred c j q → i ≤ j

-- ---- reading back

-- 'its records are read back under the same format, record width, kinds and text lengths, whatever bytes follow them, with a
-- text area that has room for the texts end to end': the call b reads the records that the call c wrote. (The count is named
-- beside the kinds, since a count over 64 has the kinds of 64 elements.)
pub record ReadsBack (c : writing.Call) (b : reading.Call) : Type 0 where
  pub same_format : b.format ≡ c.format
  pub same_width : b.R ≡ c.R
  pub same_count : b.wanted.count ≡ c.list.count
  pub same_kinds : kinds_of b ≡ map kind_of (values_of c)
  pub following : List ℕ
  pub same_records : b.records ≡ take (records_number c * c.R) (buffer_after c) ++ following
  pub room : texts_length (kinds_of b) ≤ length b.area

-- 'For every such writing where no column of a record is covered twice, its records are read back'
pub record WrittenAndRead (c : writing.Call) (t : Trace) (b : reading.Call) : Type 0 where
  pub accepted : Accepted c t
  pub once : (r k : ℕ) → CoveredTwice r k t → ⊥
  pub back : ReadsBack c b

-- 'the whole list of shown values': that of each element in the order of the walk, which is list order (`ElementsPut`)
abbrev pub shown_in_front : writing.Call → Placement → What → List Content → List Content
shown_in_front c p (element i f) rest = shown f p.width (content_of c.area (value_at (values_of c) i)) ∷ rest
shown_in_front c p (literal cs) rest = rest

unfoldable pub shown_values : writing.Call → Trace → List Content
shown_values c (put p t) = shown_in_front c p p.what (shown_values c t)
shown_values c (done n) = []
shown_values c (stopped why) = []

-- the list of shown values is whole: it has as many values as the list written, and at the place of each element the value that
-- its field shows, whatever value is taken past the end
abbrev pub ShownEach : Type 0
ShownEach =
    (c : writing.Call) (t : Trace) → Accepted c t → (length (shown_values c t) ≡ length (values_of c))
    × ((p : Placement) → In p t → (i : ℕ) (f : Field ℕ) → p.what ≡ element i f → (past : Content)
    → get_or (shown_values c t) i past ≡ shown f p.width (content_of c.area (value_at (values_of c) i)))

-- ---- the section's sentences

pub record DemandThree : Type 0 where
  -- 'In every accepted writing, whatever the format, list, record width and buffer, a numeric field puts asterisks in all its
  -- columns, overwritten later or not, exactly when no numeral of its width stands for the value rounded as its descriptor says'; 'the
  -- asterisk rule is read with the numerals that the setting permits'
  pub exactly_when : (c : writing.Call) (t : Trace) → Accepted c t → (p : Placement) → In p t → (i : ℕ) (f : Field ℕ) → p.what ≡ element i f
      → numeric f ≡ true → (puts c p ≡ replicate p.width asterisk) ↔ NoNumeral p.settings (value_at (values_of c) i) f
  -- 'The starred number in the result is the number of these fields.'
  pub their_number : (c : writing.Call) (t : Trace) → Accepted c t → Counted (StarredField c) t (starred_number c)
  -- 'If no field is starred, reading gives exactly the whole list of shown values and the same number of records.'
  pub shown_back : (c : writing.Call) (t : Trace) (b : reading.Call) → WrittenAndRead c t b → ((p : Placement) → In p t → StarredField c p → ⊥)
      → (answer_number (answer_to b) ≡ 0) × (contents_after b ≡ shown_values c t) × (answer_records (answer_to b) ≡ records_number c)
  -- 'If some are, reading is refused with 12 at the element of the first starred one in list order.'
  pub refused_at_first : (c : writing.Call) (t : Trace) (b : reading.Call) → WrittenAndRead c t b → (p : Placement) → In p t → StarredField c p
      → (i : ℕ) × FirstStarred c t i × (answer_number (answer_to b) ≡ 12) × (answer_place (answer_to b) ≡ i)
