use Rattle.std.proofs.Common.{refl, ap, ◌∙◌, arith}
use Rattle.sheet_walk.specs.Followed.{left_of}
use Rattle.sheet_walk.proofs.Parts.{fewer_left}
use Rattle.write_passes.specs.Placed.{judged}
use Rattle.write_passes.specs.Passes.{values_of}
use Rattle.write_passes.proofs.CheckLaws.{part, part_begins, part_large, part_ends, part_refused, part_goes_on, all_if}
use Rattle.write_passes.proofs.checking.check_pass.Goals as goal

pub loop-place-init : goal.loop-place-init
loop-place-init c = (record { goes_by = c.new-walk.ensures.goes_by; same = ap (judged (values_of c.args.sheet)) c.new-walk.ensures.left; whole = λ e. (c.new-walk.ensures.left, c.new-walk.ensures.none_taken) }, refl)

pub first_too_large-requires : goal.first_too_large-requires
first_too_large-requires c =
    let g = c.loop-place.invariant.0 in
    let p = part c.args.sheet g c.place-placed.ensures in
    record { whole = left_of c.loop-place.walk; taken = p.taken; left = p.left; begins = part_begins c.args.sheet g c.place-placed.ensures c.taken-first.ensures }

pub returns-in-Some : goal.returns-in-Some
returns-in-Some c = part_large c.args.sheet c.loop-place.invariant.0 c.place-placed.ensures c.taken-first.ensures c.first_too_large.ensures c.in-Some.is

pub returns-in-Ends : goal.returns-in-Ends
returns-in-Ends c = (
  part_ends c.args.sheet c.loop-place.invariant.0 c.place-placed.ensures c.taken-first.ensures c.first_too_large.ensures c.in_default.not-Some c.in-Ends.is,
  rw c.then_some-whole.ensures (all_if c.args.sheet c.loop-place.invariant.0 c.place-placed.ensures c.loop-place.at_once c.in-Ends.is refl),
)

pub returns-in-Refused : goal.returns-in-Refused
returns-in-Refused c = part_refused c.args.sheet c.loop-place.invariant.0 c.place-placed.ensures c.taken-first.ensures c.first_too_large.ensures c.in_default.not-Some c.in-Refused.is

pub loop-place-smaller : goal.loop-place-smaller
loop-place-smaller c = fewer_left (part c.args.sheet c.loop-place.invariant.0 c.place-placed.ensures) c.in-Full.is (omega (arith, c.requires, c.loop-place.invariant.1, c.place-placed.auto.covers))

pub loop-place-preserved : goal.loop-place-preserved
loop-place-preserved c = (
  part_goes_on c.args.sheet c.loop-place.invariant.0 c.place-placed.ensures c.taken-first.ensures c.first_too_large.ensures c.in_default.not-Some c.in-Full.is,
  c.place-placed.auto.covers ∙ c.loop-place.invariant.1,
)
