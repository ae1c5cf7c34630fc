use mathlib.Core.Path.{refl, ◌∙◌}
use Rattle.field_read.proofs.Blanks.{first_rest, test_none, test_some}
use Rattle.field_read.proofs.Cases.{whole_ended, whole_stopped, whole_over}
use Rattle.field_read.proofs.integer.read_whole.Goals as goal

pub returns-in_err-whole : goal.returns-in_err-whole
returns-in_err-whole c = rw c.from_residual.ensures (whole_over c.args.sign c.in_err-whole.ensures)

pub returns-then-not-is_empty : goal.returns-then-not-is_empty
returns-then-not-is_empty c =
    whole_stopped c.args.sign c.in_ok-whole.ensures (first_rest _ (test_some _ c.if-not-is_empty.ensures) refl)

pub returns : goal.returns
returns c = c.number_of.ensures ∙ whole_ended c.args.sign c.in_ok-whole.ensures (test_none _ c.if-not-is_empty.ensures)
