-- Before `rest` all is blank.
use Rattle.std.proofs.Common.{◌≡◌, length}
use Rattle.field_read.specs.LogicalRead.{after_blanks}
use Rattle.field_read.proofs.leading.skip_blanks.Given as goal

abbrev pub invariant-loop-rest : goal.invariant-loop-rest
invariant-loop-rest l = after_blanks l.part ≡ after_blanks l.rest

abbrev pub decreases-loop-rest : goal.decreases-loop-rest
decreases-loop-rest l = length l.rest
