use Rattle.std.proofs.Common.{length}
use Rattle.format_run.proofs.Adding.{Added}
use Rattle.format_run.proofs.size.+size_of.Given as goal

abbrev pub decreases-size_of : goal.decreases-size_of
decreases-size_of l = l.level

abbrev pub invariant-loop-entry : goal.invariant-loop-entry
invariant-loop-entry l = Added l.entries l.level l.total l.rest

abbrev pub decreases-loop-entry : goal.decreases-loop-entry
decreases-loop-entry l = length l.rest
