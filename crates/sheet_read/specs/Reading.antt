-- The rules, 'The list', 'The walk' and 'Checks by place': reading. The outcome, the list given and the text area afterwards,
-- for every record width R, format, list of wanted elements, text area and records.
-- Assumes nothing.
use Rattle.std.specs.Prelude.{cond, List, [], ◌∷◌, map, ℕ, ◌/◌, leb, length, Result, Ok, Err}
use Rattle.format_grammar.specs.Check.{outcome}
use Rattle.list_elements.specs.Elements.{Kind, kind_of, empty_list, values}
use Rattle.list_elements.specs.Limits.{ListCheck, wanted_check, texts_length}
use Rattle.list_elements.specs.Contents.{Content, laid_texts, values_from, list_of}
use Rattle.list_elements.specs.declared.List as carried
use Rattle.sheet_walk.specs.Answers.{Answer}
use Rattle.sheet_walk.specs.Refusals.{refusal_number, refusal_place}
use Rattle.sheet_walk.specs.declared.Refusal.{Refusal}
use Rattle.sheet_walk.specs.declared.Refusal.TheVariants.{TextArea}
use Rattle.sheet_rows.specs.Rows as rows
use Rattle.sheet_rows.specs.Rows.{Row, passed, in_order, format_row, element_row, rows_before, after_rows, walk_under}
use Rattle.read_passes.specs.Given.{Gathered, accepted, refused, gathered}
use Rattle.sheet_read.specs.declared.SheetRead.{SheetRead}
use Rattle.sheet_walk.specs.Steps.{records_in}

-- accepted, with what the elements hold, in list order, and the number of records reached, or refused
pub data Reading : Type 0 where
  accepts : List Content → (records : ℕ) → Reading
  refuses : Refusal → Reading

-- what is gathered on the walk, as a reading
abbrev pub concluded : Gathered → Reading
concluded (accepted cs n) = accepts cs n
concluded (refused why) = refuses why

-- ---- the rows before the walk

-- row 13: 'wanted texts longer together than the text area', of `room` bytes
abbrev pub text_area_row : List Kind → ℕ → Row
text_area_row kinds room = cond (leb (texts_length kinds) room) passed (rows.refused TextArea)

-- rows 6 and 13: those of the list, in reading
unfoldable pub wanted_rows : ListCheck → List Kind → ℕ → Row
wanted_rows check kinds room = in_order (element_row check ∷ text_area_row kinds room ∷ [])

-- the whole of reading, for wanted elements whose check is given and that have these kinds: the rows before the walk, and the
-- same walk as in writing
unfoldable pub reading_of : ℕ → List ℕ → ListCheck → List Kind → ℕ → List ℕ → Reading
reading_of R format check kinds room records =
    after_rows refuses (rows_before R (format_row (outcome format)) (wanted_rows check kinds room) (length records / R))
    (concluded (gathered R kinds records (walk_under format kinds (records_in R (length records)))))

-- for the carried list: 'the caller lists the kinds wanted, with a length for each text'
abbrev pub reading : ℕ → List ℕ → carried.List → ℕ → List ℕ → Reading
reading R format wanted room records = reading_of R format (wanted_check wanted) (map kind_of (values wanted)) room records

-- ---- the answer, the list given, and the text area afterwards

-- 'The result carries the number of records and the number of starred fields .., 0 in reading.'
abbrev pub answer_of : Reading → Answer
answer_of (accepts cs n) = Ok (record { records = n; starred = 0 })
answer_of (refuses why) = Err why

-- the values in list order, texts from the first byte of the area on; refused, 'no values'
abbrev pub list_given : Reading → carried.List
list_given (accepts cs n) = list_of (values_from 0 cs)
list_given (refuses why) = empty_list

-- the texts laid; refused, 'every lent byte is then as before the call'
abbrev pub area_of : List ℕ → Reading → List ℕ
area_of area (accepts cs n) = laid_texts area cs
area_of area (refuses why) = area

-- the answer and the list of what the code answers; of a refusal the empty list
abbrev pub answer_in : Result SheetRead Refusal → Answer
answer_in (Ok r) = Ok r.counts
answer_in (Err why) = Err why

abbrev pub list_in : Result SheetRead Refusal → carried.List
list_in (Ok r) = r.list
list_in (Err why) = empty_list

-- what `read` answers, gives, and leaves in the text area
abbrev pub read_answer : ℕ → List ℕ → carried.List → List ℕ → List ℕ → Answer
read_answer R format wanted area records = answer_of (reading R format wanted (length area) records)

abbrev pub read_list : ℕ → List ℕ → carried.List → List ℕ → List ℕ → carried.List
read_list R format wanted area records = list_given (reading R format wanted (length area) records)

abbrev pub read_area : ℕ → List ℕ → carried.List → List ℕ → List ℕ → List ℕ
read_area R format wanted area records = area_of area (reading R format wanted (length area) records)

-- ---- the rules' number, place, records and starred of a reading (those of the code's answer are in `Answers` of `sheet_walk`):
-- 'A refusal carries number and place, and besides them zero records, zero starred, no values'; 0 where an accepted reading has no
-- number and place

abbrev pub reading_number : Reading → ℕ
reading_number (accepts cs n) = 0
reading_number (refuses why) = refusal_number why

abbrev pub reading_place : Reading → ℕ
reading_place (accepts cs n) = 0
reading_place (refuses why) = refusal_place why

abbrev pub reading_records : Reading → ℕ
reading_records (accepts cs n) = n
reading_records (refuses why) = 0

abbrev pub reading_starred : Reading → ℕ
reading_starred (accepts cs n) = 0
reading_starred (refuses why) = 0
