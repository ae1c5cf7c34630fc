use mathlib.Core.Path.{◌≡◌, ap, ◌∙◌}
use Rattle.std.proofs.Common.{rules}
use lib.IntN.{nat_abs}
use mir.Facts.{to_z-of_z}
use Rattle.number.specs.Magnitude.{negative}
use Rattle.number.proofs.SignLaws.{below_zero}
use Rattle.field_written.specs.Numeral.{I}
use Rattle.field_written.specs.Written.{sign_if}
use Rattle.field_written.proofs.Answer.{number_starred, number_shown}
use Rattle.field_written.proofs.integer.write_integer.Goals as goal
use Rattle.field_written.proofs.integer.write_integer.Goals.{After-of-sign, After-unsigned_abs-magnitude}

-- what the callees say of the signed number, which reaches them as bits
sign_is : (c : After-of-sign) → c.of-sign.result ≡ sign_if c.args.setting (negative c.args.n)
sign_is c = c.of-sign.ensures ∙ ap (sign_if c.args.setting) ((simp (to_z-of_z c.ranges.n) at c.is_negative.ensures) ∙ below_zero c.args.n)

magnitude_is : (c : After-unsigned_abs-magnitude) → c.unsigned_abs-magnitude.result ≡ nat_abs c.args.n
magnitude_is c = simp (to_z-of_z c.ranges.n) at c.unsigned_abs-magnitude.ensures.value

pub returns-then-part-need : goal.returns-then-part-need
returns-then-part-need c =
    let w = number_starred c.args.setting I _ c.args.n (sign_is (goal.at.returns-then-part-need c).After-of-sign) (magnitude_is (goal.at.returns-then-part-need c).After-unsigned_abs-magnitude) c.integer_columns-need.ensures.count c.if-part-need.true in
    record { answer = w.0; laid = (search rules) ∙ w.1 }

pub returns : goal.returns
returns c =
    let w = number_shown c.args.setting I _ c.args.n (sign_is (goal.at.returns c).After-of-sign) (magnitude_is (goal.at.returns c).After-unsigned_abs-magnitude) c.integer_columns-need.ensures.count c.if-part-need.false in
    record { answer = w.0; laid = c.put_integer.ensures ∙ w.1 }
