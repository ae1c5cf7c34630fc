use Rattle.std.proofs.Common.{◌≤◌, length}
use Rattle.case_lines.proofs.sheets.list_from_lines.Given as goal

abbrev pub invariant-loop-line : goal.invariant-loop-line
invariant-loop-line l = length l.lines.rest.now ≤ length l.fn.lines.rest.now

abbrev pub decreases-loop-line : goal.decreases-loop-line
decreases-loop-line l = length l.lines.rest.now
