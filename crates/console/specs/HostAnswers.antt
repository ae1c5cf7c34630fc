-- The rules, the console host: 'the answer is the records written (0 for an accepted format check) or the refusal's number
-- negated, without its place'.
-- Assumes nothing.
use Rattle.std.specs.Prelude.{ℤ, pos, neg_ℤ, Ok, Err}
use Rattle.format_items.specs.Refusals as format
use Rattle.format_check.specs.Checked.{CheckAnswer}
use Rattle.sheet_walk.specs.Refusals.{refusal_number}
use Rattle.sheet_walk.specs.Answers.{Answer}

-- of writing
abbrev pub host_write_number : Answer → ℤ
host_write_number (Ok n) = pos n.records
host_write_number (Err why) = neg_ℤ (pos (refusal_number why))

-- of the format check
abbrev pub host_check_number : CheckAnswer → ℤ
host_check_number (Ok _) = pos 0
host_check_number (Err why) = neg_ℤ (pos (format.refusal_number why))
