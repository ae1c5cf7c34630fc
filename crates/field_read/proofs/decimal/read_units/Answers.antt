use mathlib.Core.Path.{refl, ◌∙◌}
use Rattle.field_read.proofs.Blanks.{first_rest, short_none, test_none, test_some}
use Rattle.field_read.proofs.Cases.{run_value, units_ended, units_other, units_pointed, units_over, fraction_ended, fraction_long, fraction_stopped, fraction_over}
use Rattle.field_read.proofs.decimal.read_units.Goals as goal

pub returns-in_err-whole : goal.returns-in_err-whole
returns-in_err-whole c = rw c.from_residual.ensures (units_over c.args.sign c.args.d c.in_err-whole.ensures)

pub returns-in_default : goal.returns-in_default
returns-in_default c = c.number_of.ensures ∙ units_ended c.args.sign c.args.d c.in_ok-whole.ensures (short_none _ c.in_default.len_below)

pub returns-then-point-ne46 : goal.returns-then-point-ne46
returns-then-point-ne46 c =
    units_other c.args.sign c.args.d c.in_ok-whole.ensures (first_rest _ c.in-len1-up.len_at_least refl) c.if-point-ne46.true

pub returns-in_err-fraction : goal.returns-in_err-fraction
returns-in_err-fraction c =
    let r = c.in_ok-whole.ensures in
    rw c.from_residual-in_err-fraction.ensures
    (fraction_over c.args.sign r.run.digits r.run.all (run_value r) c.in_err-fraction.ensures
    ∙ units_pointed c.args.sign c.args.d r (first_rest _ c.in-len1-up.len_at_least refl) c.if-point-ne46.false)

pub returns-then-not-is_empty : goal.returns-then-not-is_empty
returns-then-not-is_empty c =
    let r = c.in_ok-whole.ensures in
    fraction_stopped c.args.sign r.run.digits r.run.all (run_value r) c.in_ok-fraction.ensures (first_rest _ (test_some _ c.if-not-is_empty.ensures) refl)
    ∙ units_pointed c.args.sign c.args.d r (first_rest _ c.in-len1-up.len_at_least refl) c.if-point-ne46.false

pub returns-then-places-gt-MOST_PLACES : goal.returns-then-places-gt-MOST_PLACES
returns-then-places-gt-MOST_PLACES c =
    let r = c.in_ok-whole.ensures in
    fraction_long c.args.sign r.run.digits r.run.all (run_value r) c.in_ok-fraction.ensures (test_none _ c.if-not-is_empty.ensures) c.if-places-gt-MOST_PLACES.true
    ∙ units_pointed c.args.sign c.args.d r (first_rest _ c.in-len1-up.len_at_least refl) c.if-point-ne46.false

pub returns : goal.returns
returns c =
    let r = c.in_ok-whole.ensures in
    c.number_of-2.ensures
    ∙ fraction_ended c.args.sign r.run.digits r.run.all (run_value r) r.run.many c.in_ok-fraction.ensures (test_none _ c.if-not-is_empty.ensures) c.if-places-gt-MOST_PLACES.false
    ∙ units_pointed c.args.sign c.args.d r (first_rest _ c.in-len1-up.len_at_least refl) c.if-point-ne46.false
