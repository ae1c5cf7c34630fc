-- Before `rest` all are blanks and digits.
use Rattle.std.proofs.Common.{length}
use Rattle.field_read.specs.Steps.{RunSoFar}
use Rattle.field_read.proofs.digits.read_run.Given as goal

abbrev pub invariant-loop-rest : goal.invariant-loop-rest
invariant-loop-rest l = RunSoFar l.part l.v l.value l.count l.rest

abbrev pub decreases-loop-rest : goal.decreases-loop-rest
decreases-loop-rest l = length l.rest
