-- What the theorems of proofs/ say of list text written, and of the program's input and output.
-- Assumes nothing.
use Rattle.std.specs.Prelude.{◌≡◌, List, ℕ, ◌+◌, ◌<◌, take}
use Rattle.format_items.specs.Refusals.{longest_format}
use Rattle.list_elements.specs.Limits.{list_check}
use Rattle.list_elements.specs.Contents.{list_of}
use Rattle.sheet_write.specs.Writing.{writing, write_answer, write_buffer}
use Rattle.list_text.specs.ListText.{line_values, line_check}
use Rattle.list_text.specs.Promises.{longest_list}
use Rattle.sheet_text.specs.FromListText.{writing_from, answer_from, buffer_from}
use Rattle.sheet_text.specs.Input.{most_width_digits}
use Rattle.sheet_text.specs.SheetOutput.{sheet_output}

-- writing from a list text is writing the list of its values, the text being the text area: row 6, what becomes of it, the
-- answer and the buffer afterwards. So every promise on row 6 and on writing holds of it. (Over 64 lines make a longer list than
-- a call can be handed; row 6 refuses it all the same.)
pub record WritingFromIs : Type 0 where
  pub checks : (text : List ℕ) → line_check text ≡ list_check text (list_of (line_values text))
  pub becomes : (R : ℕ) (format text : List ℕ) (B : ℕ) → writing_from R format text B ≡ writing R format (list_of (line_values text)) text B
  pub answers : (R : ℕ) (format text buffer : List ℕ) → answer_from R format text buffer ≡ write_answer R format (list_of (line_values text)) text buffer
  pub bytes : (R : ℕ) (format text buffer : List ℕ) → buffer_from R format text buffer ≡ write_buffer R format (list_of (line_values text)) text buffer

-- the longest input that can be accepted: a first line of 3 bytes, a format of 1,024, 64 lines of 66, and their line feeds
abbrev pub longest_input : ℕ
longest_input = most_width_digits + 1 + (longest_format + 1) + longest_list

-- of a longer input only its beginning matters: one byte more than that, or any number more, has the answer that the whole
-- input has
abbrev pub RestUnread : Type 0
RestUnread = (s : List ℕ) (k : ℕ) → longest_input < k → sheet_output (take k s) ≡ sheet_output s
