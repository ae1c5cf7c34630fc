use mathlib.Core.Path.{◌≡◌, refl, ◌∙◌}
use native.Mathlib.Omega.{arith}
use Rattle.std.specs.Prelude.{Some, slice_get}
use Rattle.std.proofs.lemmas.Grind.{common_steps}
use Rattle.std.proofs.lemmas.Option.{gets, slice_get_within, get_or_from_slice_get}
use Rattle.format_read.proofs.TakeSteps.{moved}
use Rattle.format_read.proofs.GroupSteps.{took_group, so_far_none, so_far_other, so_far_closed, so_far_more}
use Rattle.format_read.proofs.Position.+read_item_read_items.Goals as goal

pub read_item-returns-in_ok-read_items : goal.read_item-returns-in_ok-read_items
read_item-returns-in_ok-read_items t c =
    took_group c.requires.0 (rw c.in-Group.is at c.in_ok-repeat.ensures) c.in_ok-read_items.ensures (c.read_items.auto.entries ∙ c.read_head.auto.entries) _ refl

pub read_items-loop-self-init : goal.read_items-loop-self-init
read_items-loop-self-init t c = so_far_none

pub read_items-returns-in-Some-eq41 : goal.read_items-returns-in-Some-eq41
read_items-returns-in-Some-eq41 t c =
    let p = c.read_item.new.self in
    let is : slice_get p.text.now p.at ≡ Some 41 = grind (arith, common_steps, gets) in
    so_far_closed c.loop-self.invariant c.in_ok-read_item.ensures (moved refl)
    (slice_get_within p.text.now p.at 41 is) (get_or_from_slice_get p.text.now p.at 41 0 is)

pub read_items-loop-self-preserved : goal.read_items-loop-self-preserved
read_items-loop-self-preserved t c =
    let p = c.read_item.new.self in
    let is : slice_get p.text.now p.at ≡ Some 44 = grind (arith, common_steps, gets) in
    so_far_more c.loop-self.invariant c.in_ok-read_item.ensures (moved refl)
    (slice_get_within p.text.now p.at 44 is) (get_or_from_slice_get p.text.now p.at 44 0 is)

pub read_items-returns-in_default : goal.read_items-returns-in_default
read_items-returns-in_default t c = so_far_other c.loop-self.invariant c.in_ok-read_item.ensures (λ h e. grind (arith, common_steps, gets)) (λ h e. grind (arith, common_steps, gets))
