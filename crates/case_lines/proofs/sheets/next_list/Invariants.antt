use Rattle.std.proofs.Common.{◌≤◌, length}
use Rattle.std.specs.Slice.Iter.{iter_rest}
use Rattle.case_lines.proofs.sheets.next_list.Given as goal

abbrev pub invariant-loop-line : goal.invariant-loop-line
invariant-loop-line l = length (iter_rest l.lines) ≤ length (iter_rest l.fn.lines)

abbrev pub decreases-loop-line : goal.decreases-loop-line
decreases-loop-line l = length (iter_rest l.lines)
