use Rattle.field_read.specs.LogicalRead.{logical_read}
use Rattle.field_read.proofs.logical.read_logical.Goals as goal

pub returns : goal.returns
unfolding logical_read
returns c = rw (← c.skip_blanks.ensures, ← c.skip_period.ensures) c.read_letter.ensures
