-- The rules, 'The walk' and 'Checks by place': writing. The outcome and the buffer afterwards, for every record width R,
-- format, list, text area and buffer.
-- Assumes nothing.
use Rattle.std.specs.Prelude.{List, map, ℕ, ◌/◌, length, Ok, Err}
use Rattle.format_grammar.specs.Check.{outcome}
use Rattle.list_elements.specs.Elements.{kind_of, values}
use Rattle.list_elements.specs.Limits.{ListCheck, list_check}
use Rattle.list_elements.specs.declared.Value.{Value}
use Rattle.list_elements.specs.declared.List as carried
use Rattle.sheet_walk.specs.Answers.{Answer}
use Rattle.sheet_walk.specs.Refusals.{refusal_number, refusal_place}
use Rattle.sheet_walk.specs.Walk.{Trace}
use Rattle.sheet_walk.specs.Laid.{written}
use Rattle.sheet_walk.specs.declared.Refusal.{Refusal}
use Rattle.sheet_rows.specs.Rows.{format_row, element_row, rows_before, after_rows, walk_under}
use Rattle.write_passes.specs.Placed.{characters, starred_in, Judged, accepted, refused, judged}
use Rattle.sheet_walk.specs.Steps.{records_in}

-- accepted, with the walk and the number of records reached, or refused
pub data Writing : Type 0 where
  accepts : Trace → (records : ℕ) → Writing
  refuses : Refusal → Writing

-- a walk and how it ends, as a writing
abbrev pub concluded : Trace → Judged → Writing
concluded t (accepted n) = accepts t n
concluded t (refused why) = refuses why

-- the walk's rows: 'the first refusal on the walk counts'
abbrev pub walked : List Value → Trace → Writing
walked vs t = concluded t (judged vs t)

-- the whole of writing, for a list whose check is given and that has the values vs: the rows before the walk, and the walk's
unfoldable pub writing_of : ℕ → List ℕ → ListCheck → List Value → ℕ → Writing
writing_of R format check vs B =
    after_rows refuses (rows_before R (format_row (outcome format)) (element_row check) (B / R)) (walked vs (walk_under format (map kind_of vs) (records_in R B)))

-- for the carried list
abbrev pub writing : ℕ → List ℕ → carried.List → List ℕ → ℕ → Writing
writing R format l area B = writing_of R format (list_check area l) (values l) B

-- ---- the answer, and the buffer afterwards

-- 'The result carries the number of records and the number of starred fields'
abbrev pub answer_of : List Value → Writing → Answer
answer_of vs (accepts t n) = Ok (record { records = n; starred = starred_in vs t })
answer_of vs (refuses why) = Err why

-- the buffer afterwards: the records written; refused, 'every lent byte is then as before the call'
abbrev pub buffer_of : ℕ → List ℕ → List Value → List ℕ → Writing → List ℕ
buffer_of R area vs buffer (accepts t n) = written R (characters area vs) t n buffer
buffer_of R area vs buffer (refuses why) = buffer

-- what `write` answers
abbrev pub write_answer : ℕ → List ℕ → carried.List → List ℕ → List ℕ → Answer
write_answer R format l area buffer = answer_of (values l) (writing R format l area (length buffer))

-- and leaves in the buffer
abbrev pub write_buffer : ℕ → List ℕ → carried.List → List ℕ → List ℕ → List ℕ
write_buffer R format l area buffer = buffer_of R area (values l) buffer (writing R format l area (length buffer))

-- ---- the rules' number, place, records and starred of a writing (those of the code's answer are in `Answers` of `sheet_walk`):
-- 'A refusal carries number and place, and besides them zero records, zero starred'; 0 where an accepted writing has no number
-- and place

abbrev pub writing_number : Writing → ℕ
writing_number (accepts t n) = 0
writing_number (refuses why) = refusal_number why

abbrev pub writing_place : Writing → ℕ
writing_place (accepts t n) = 0
writing_place (refuses why) = refusal_place why

-- 'Records reached, the first included, count as written.'
abbrev pub writing_records : Writing → ℕ
writing_records (accepts t n) = n
writing_records (refuses why) = 0

abbrev pub writing_starred : List Value → Writing → ℕ
writing_starred vs (accepts t n) = starred_in vs t
writing_starred vs (refuses why) = 0
