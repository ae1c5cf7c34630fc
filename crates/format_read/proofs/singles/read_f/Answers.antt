use mathlib.Core.Path.{◌≡◌, ap, ◌∙◌}
use native.Mathlib.Omega.{arith}
use Rattle.std.specs.Prelude.{Some, slice_get}
use Rattle.std.proofs.lemmas.Grind.{common_steps}
use Rattle.std.proofs.lemmas.Option.{gets, slice_get-get_or, slice_get_within, get_or_from_slice_get}
use Rattle.format_read.proofs.SingleSteps.{passed_on, absent, decimal_missing, decimal_no_point, decimal_no_places, decimal_read}
use Rattle.format_read.proofs.singles.read_f.Goals as goal

pub returns-in_err-width : goal.returns-in_err-width
returns-in_err-width c =
    let m = c.read_number-m in
    let a = absent m.result.value c.in_err-width.ensures.value in
    λ k rep. rw (passed_on c.from_residual.ensures.1, a.1) (decimal_missing (rw a.0 at m.ensures) k)

pub returns-then-ne : goal.returns-then-ne
returns-then-ne c =
    let p = c.read_number-m.result.next in
    let no : slice_get c.args.text.now p ≡ Some 46 → ⊥ = grind (arith, common_steps, gets) in
    λ k rep. decimal_no_point (rw c.in_ok-width.ensures.ok_part at c.read_number-m.ensures) k (λ h e. no (slice_get-get_or c.args.text.now p 0 h ∙ ap Some e))

pub returns-in_err-places : goal.returns-in_err-places
returns-in_err-places c =
    let p = c.read_number-m.result.next in
    let is : slice_get c.args.text.now p ≡ Some 46 = grind (arith, common_steps, gets) in
    let n = c.read_number-n in
    let a = absent n.result.value c.in_err-places.ensures.value in
    λ k rep. rw (passed_on c.from_residual-in_err-places.ensures.1, a.1)
    (decimal_no_places (rw c.in_ok-width.ensures.ok_part at c.read_number-m.ensures) k (slice_get_within c.args.text.now p 46 is) (get_or_from_slice_get c.args.text.now p 46 0 is) (rw a.0 at n.ensures))

pub returns : goal.returns
returns c =
    let p = c.read_number-m.result.next in
    let is : slice_get c.args.text.now p ≡ Some 46 = grind (arith, common_steps, gets) in
    λ k rep. decimal_read (rw c.in_ok-width.ensures.ok_part at c.read_number-m.ensures) k (slice_get_within c.args.text.now p 46 is) (get_or_from_slice_get c.args.text.now p 46 0 is) (rw c.in_ok-places.ensures.ok_part at c.read_number-n.ensures) _ rep _ _ _ c.look_at.ensures c.look_at-2.ensures
