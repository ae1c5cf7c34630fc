use Rattle.std.proofs.Common.{length}
use Rattle.format_run.proofs.Unrolling.{Unrolling}
use Rattle.format_run.proofs.unroll.+unroll.Given as goal

abbrev pub decreases-unroll : goal.decreases-unroll
decreases-unroll l = l.level

abbrev pub invariant-loop-entry : goal.invariant-loop-entry
invariant-loop-entry l = Unrolling l.entries l.level l.run l.end l.back l.rest

abbrev pub decreases-loop-entry : goal.decreases-loop-entry
decreases-loop-entry l = length l.rest
