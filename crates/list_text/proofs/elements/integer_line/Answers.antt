use mathlib.Core.Path.{sym, ◌∙◌}
use Rattle.list_elements.proofs.LimitLaws.{from_bits}
use Rattle.list_text.proofs.ElementLaws.{integer_right, integer_wrong}
use Rattle.list_text.proofs.elements.integer_line.Goals as goal

pub returns-in_err-read_number : goal.returns-in_err-read_number
returns-in_err-read_number c = rw c.from_residual.ensures (integer_wrong c.args.s.now (sym c.read_number.ensures ∙ c.in_err-read_number.was))

pub returns : goal.returns
returns c = rw (from_bits c.in_ok-read_number.field-0 (c.in_ok-read_number).known_told-1-own.given.0.1)
    (integer_right c.args.s.now (sym c.read_number.ensures ∙ c.in_ok-read_number.was))
