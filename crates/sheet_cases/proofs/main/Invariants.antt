use Rattle.std.proofs.Common.{length}
use Rattle.sheet_cases.proofs.main.Given as goal

abbrev pub decreases-loop-head : goal.decreases-loop-head
decreases-loop-head l = length l.lines.rest.now
