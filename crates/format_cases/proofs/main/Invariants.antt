use Rattle.std.proofs.Common.{length}
use Rattle.format_cases.proofs.main.Given as goal

abbrev pub decreases-loop-line : goal.decreases-loop-line
decreases-loop-line l = length l.lines.rest.now
