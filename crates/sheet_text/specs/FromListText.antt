-- The rules: writing, 'the list as list text', which is its own text area. The outcome and the buffer afterwards, for every
-- record width R, format, list text and buffer.
-- Assumes nothing.
use Rattle.std.specs.Prelude.{List, ℕ, length}
use Rattle.sheet_walk.specs.Answers.{Answer}
use Rattle.sheet_write.specs.Writing.{Writing, writing_of, answer_of, buffer_of}
use Rattle.list_text.specs.ListText.{line_values, line_check}

-- the rows in their order, row 6 being that of the list text
abbrev pub writing_from : ℕ → List ℕ → List ℕ → ℕ → Writing
writing_from R format text B = writing_of R format (line_check text) (line_values text) B

-- the answer
abbrev pub answer_from : ℕ → List ℕ → List ℕ → List ℕ → Answer
answer_from R format text buffer = answer_of (line_values text) (writing_from R format text (length buffer))

-- the buffer afterwards
abbrev pub buffer_from : ℕ → List ℕ → List ℕ → List ℕ → List ℕ
buffer_from R format text buffer = buffer_of R text (line_values text) buffer (writing_from R format text (length buffer))
