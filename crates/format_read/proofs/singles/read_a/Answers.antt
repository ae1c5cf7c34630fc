use Rattle.format_read.proofs.SingleSteps.{text_alone, text_wide}
use Rattle.format_read.proofs.singles.read_a.Goals as goal

pub returns-in-None : goal.returns-in-None
returns-in-None c = λ k rep. text_alone k _ rep _ (rw c.in-None.is at c.read_number-m.ensures)

pub returns-in-Some : goal.returns-in-Some
returns-in-Some c = λ k rep. text_wide k _ rep _ (rw c.in-Some.is at c.read_number-m.ensures) _ c.look_at.ensures
