use Rattle.format_read.specs.Steps.{outside_after}
use Rattle.format_read.proofs.range.look_at_repeat.Goals as goal

pub returns-in-Some : goal.returns-in-Some
unfolding outside_after
returns-in-Some c = rw c.in-Some.is c.look_at.ensures

pub returns-in_default : goal.returns-in_default
unfolding outside_after
returns-in_default c = rw c.in_default.is
