use mathlib.Core.Path.{sym, ◌∙◌}
use native.Mathlib.Omega.{arith}
use Rattle.field_read.proofs.Blanks.{blank_front, other_front, nothing_front}
use Rattle.field_read.proofs.leading.skip_blanks.Goals as goal

pub loop-rest-preserved : goal.loop-rest-preserved
loop-rest-preserved c = c.loop-rest.invariant ∙ blank_front c.loop-rest.rest.now c.in-32.len_at_least (omega arith)

pub returns-in_default : goal.returns-in_default
returns-in_default c = sym (c.loop-rest.invariant ∙ nothing_front c.loop-rest.rest.now c.in_default.len_below)

pub returns-in_default-2 : goal.returns-in_default-2
returns-in_default-2 c = sym (c.loop-rest.invariant ∙ other_front c.loop-rest.rest.now c.in_default.len_at_least (λ z. omega arith))
