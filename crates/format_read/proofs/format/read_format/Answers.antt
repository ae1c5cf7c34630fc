use mathlib.Core.Path.{◌≡◌, refl, ap, ◌∙◌}
use native.Mathlib.Omega.{arith}
use Rattle.std.specs.Prelude.{Some, slice_get}
use Rattle.std.proofs.lemmas.Grind.{common_steps}
use Rattle.std.proofs.lemmas.Option.{gets, slice_get-get_or, slice_get_within, get_or_from_slice_get}
use Rattle.format_read.proofs.SingleSteps.{passed_on}
use Rattle.format_read.proofs.WholeSteps.{whole_other, whole_wrong, whole_more, whole_read}
use Rattle.format_read.proofs.format.read_format.Goals as goal

pub returns-then-ne : goal.returns-then-ne
returns-then-ne c =
    let s = c.args.text.now in
    let no : slice_get s 0 ≡ Some 40 → ⊥ = grind (arith, common_steps, gets) in
    whole_other s (λ h e. no (slice_get-get_or s 0 0 h ∙ ap Some e))

pub returns-in_err-read_items : goal.returns-in_err-read_items
returns-in_err-read_items c =
    let s = c.args.text.now in
    let is : slice_get s 0 ≡ Some 40 = grind (arith, common_steps, gets) in
    rw (passed_on c.from_residual.ensures.1) (whole_wrong s (slice_get_within s 0 40 is) (get_or_from_slice_get s 0 40 0 is) c.in_err-read_items.ensures)

pub returns-then-p-text : goal.returns-then-p-text
returns-then-p-text c =
    let s = c.args.text.now in
    let is : slice_get s 0 ≡ Some 40 = grind (arith, common_steps, gets) in
    whole_more (record { at_is = refl; no_entries = refl; no_chars = refl; none_outside = refl }) (slice_get_within s 0 40 is) (get_or_from_slice_get s 0 40 0 is) c.in_ok-read_items.ensures c.if-p-text.true

pub returns : goal.returns
returns c =
    let s = c.args.text.now in
    let is : slice_get s 0 ≡ Some 40 = grind (arith, common_steps, gets) in
    whole_read (record { at_is = refl; no_entries = refl; no_chars = refl; none_outside = refl }) (slice_get_within s 0 40 is) (get_or_from_slice_get s 0 40 0 is) c.in_ok-read_items.ensures c.if-p-text.false
