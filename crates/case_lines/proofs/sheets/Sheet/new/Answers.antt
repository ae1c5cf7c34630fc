use native.Mathlib.Omega.{arith}
use Rattle.case_lines.proofs.sheets.Sheet.new.Goals as goal

-- (The check finds this alone. It stands here so that the wrong version `a_line_always_taken` is refused by a fact.)
pub returns : goal.returns
returns c = omega (arith, c.next_line.ensures, c.next_line-2.ensures, c.next_list.ensures)
