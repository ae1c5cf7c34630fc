-- The rules, program `trimsheet`: its whole output for its whole input.
-- Assumes nothing.
use Rattle.std.specs.Prelude.{List, ℕ}
use Rattle.sheet_write.specs.Writing.{Writing}
use Rattle.list_text.specs.ListText.{line_values}
use Rattle.sheet_text.specs.FromListText.{writing_from}
use Rattle.sheet_text.specs.Input.{input_width, input_format, input_list}
use Rattle.sheet_text.specs.Output.{output_of}

-- 'Its record buffer is 64 KiB.'
abbrev pub record_buffer : ℕ
record_buffer = 65536

-- what becomes of an input
abbrev pub input_writing : List ℕ → Writing
input_writing s = writing_from (input_width s) (input_format s) (input_list s) record_buffer

-- the output
unfoldable pub sheet_output : List ℕ → List ℕ
sheet_output s = output_of (input_width s) (input_list s) (line_values (input_list s)) (input_writing s)
