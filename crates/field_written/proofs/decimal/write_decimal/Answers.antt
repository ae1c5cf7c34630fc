use mathlib.Core.Path.{◌≡◌, sym, ap, ◌∙◌, refl}
use lib.IntN.{nat_abs}
use mir.Facts.{to_z-of_z}
use Rattle.std.proofs.Common.{rules}
use Rattle.std.proofs.lemmas.Result.{err_from_is_err_and}
use Rattle.number.specs.Magnitude.{negative}
use Rattle.number.proofs.SignLaws.{below_zero}
use Rattle.number.proofs.RoundingLaws.{units_of}
use Rattle.field_written.specs.Written.{sign_if}
use Rattle.field_written.proofs.Answer.{decimal_starred, decimal_shown, decimal_large}
use Rattle.field_written.proofs.decimal.write_decimal.Goals as goal
use Rattle.field_written.proofs.decimal.write_decimal.Goals.{After-is_negative-negative, After-unsigned_abs-m}

-- what the callees say of the signed units, which reach them as bits
negative_is : (c : After-is_negative-negative) → c.is_negative-negative.result ≡ negative c.args.units
negative_is c = (simp (to_z-of_z c.ranges.units) at c.is_negative-negative.ensures) ∙ below_zero c.args.units

magnitude_is : (c : After-unsigned_abs-m) → c.unsigned_abs-m.result ≡ nat_abs c.args.units
magnitude_is c = simp (to_z-of_z c.ranges.units) at c.unsigned_abs-m.ensures.value

pub returns-in_err-v : goal.returns-in_err-v
returns-in_err-v c =
    let w = decimal_large c.args.setting _ c.args.d c.args.units c.args.places (magnitude_is (goal.at.returns-in_err-v c).After-unsigned_abs-m) (sym c.in_err-v.ensures) in
    let p = err_from_is_err_and c.from_residual.result c.from_residual.ensures.1 in
    record { answer = rw (p.1, p.2) w.0; laid = w.1 _ }

pub invariant_of-shown : goal.invariant_of-shown
invariant_of-shown c = record { small = (units_of _ _ _ (sym c.in_ok-v.ensures)).1 }

pub returns-then-part-need : goal.returns-then-part-need
returns-then-part-need c =
    let w = decimal_starred c.args.setting _ _ c.args.units c.args.places (magnitude_is (goal.at.returns-then-part-need c).After-unsigned_abs-m) (sym c.in_ok-v.ensures) (negative_is (goal.at.returns-then-part-need c).After-is_negative-negative) (c.of-sign.ensures ∙ ap (sign_if c.args.setting) c.stays_negative.ensures) c.decimal_columns-need.ensures.count c.if-part-need.true in
    record { answer = w.0; laid = (search rules) ∙ w.1 _ refl }

pub returns : goal.returns
returns c =
    let w = decimal_shown c.args.setting _ _ c.args.units c.args.places (magnitude_is (goal.at.returns c).After-unsigned_abs-m) (sym c.in_ok-v.ensures) (negative_is (goal.at.returns c).After-is_negative-negative) (c.of-sign.ensures ∙ ap (sign_if c.args.setting) c.stays_negative.ensures) c.decimal_columns-need.ensures.count c.if-part-need.false in
    record { answer = w.0; laid = c.put_decimal.ensures ∙ w.1 _ refl }
