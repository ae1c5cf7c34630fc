use mathlib.Core.Path.{sym}
use Rattle.format_read.proofs.SingleSteps.{passed_on}
use Rattle.format_read.proofs.BegunSteps.{after_digits, T-missing, T-read}
use Rattle.format_read.proofs.singles.read_t.Goals as goal

pub returns-then-is_some : goal.returns-then-is_some
returns-then-is_some c = λ o h. after_digits c.requires.number_found c.requires.at_t.0 (sym c.if-is_some.ensures) (λ n l xs q. rw c.requires.at_t.1)

pub returns-in_err-column : goal.returns-in_err-column
returns-in_err-column c = λ o h.
    rw (passed_on c.from_residual.ensures.1)
    (T-missing c.requires.number_found c.requires.at_t.0 c.requires.at_t.1 (sym c.if-is_some.ensures) c.in_err-column.ensures o)

pub returns : goal.returns
returns c = λ o h.
    rw c.single.ensures
    (T-read c.requires.number_found c.requires.at_t.0 c.requires.at_t.1 (sym c.if-is_some.ensures) o _ _ h c.in_ok-column.ensures)
