use mathlib.Core.Path.{sym, ◌∙◌}
use Rattle.list_elements.proofs.LimitLaws.{from_bits}
use Rattle.list_text.proofs.ElementLaws.{digits_low, signed_right, signed_wrong}
use Rattle.list_text.proofs.numbers.read_signed.Goals as goal

pub returns-in_err-read_digits : goal.returns-in_err-read_digits
returns-in_err-read_digits c = c.from_residual.ensures ∙ signed_wrong c.args.digits.now c.args.negated (sym c.read_digits.ensures ∙ c.in_err-read_digits.was)

pub with_sign-requires : goal.with_sign-requires
with_sign-requires c = digits_low c.args.digits.now (sym c.read_digits.ensures ∙ c.in_ok-read_digits.was)

pub returns : goal.returns
returns c = rw (from_bits c.with_sign.result c.with_sign.type_inv)
    (signed_right c.args.digits.now c.args.negated (sym c.read_digits.ensures ∙ c.in_ok-read_digits.was) c.with_sign.ensures)
