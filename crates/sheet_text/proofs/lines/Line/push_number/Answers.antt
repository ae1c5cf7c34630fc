use Rattle.sheet_text.proofs.DecimalDigits.{digits_in_parts}
use Rattle.sheet_text.specs.Output.{decimal_digits}
use Rattle.sheet_text.proofs.lines.Line.push_number.Goals as goal

pub returns-then-high-gt0-clause-digits : goal.returns-then-high-gt0-clause-digits
returns-then-high-gt0-clause-digits c = digits_in_parts c.args.n c.power_of_ten.ensures.power c.if-high-gt0.true c.args.self.now c.digit_count.ensures.count c.push_digits.ensures.digits c.push_digits-then-high-gt0.ensures.digits

pub returns-else-high-gt0-clause-digits : goal.returns-else-high-gt0-clause-digits
unfolding decimal_digits
returns-else-high-gt0-clause-digits c = rw (c.push_digits-else-high-gt0.ensures.digits, c.digit_count-else-high-gt0.ensures.count)
