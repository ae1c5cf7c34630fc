use Rattle.std.proofs.Common.{◌≡◌, ◌∙◌, sym, subst, length}
use Rattle.list_elements.specs.Elements.{most_elements}
use Rattle.list_elements.specs.Checked.{CheckedAs}
use Rattle.list_elements.proofs.Checking.{any_map, checked_none, checked_more, checked_bad, checked_good, check_bad, checked_as}
use Rattle.list_elements.proofs.List.checked.Given as given
use Rattle.list_elements.proofs.List.checked.Goals as goal
use Rattle.list_elements.proofs.List.checked.Goals.{Start}

-- the length of the list's array
full : (g : given.Over) (c : Start g) → length c.args.self.now.elements ≡ most_elements
full g c = search any_map

pub loop-place-init : goal.loop-place-init
loop-place-init g c = λ passes says. checked_none

pub loop-place-preserved : goal.loop-place-preserved
loop-place-preserved g c = λ passes says. checked_more (c.loop-place.invariant passes says) _ c.loop-place-test.true (sym (says _ _ c.test.ensures) ∙ c.if-not-test.false)

pub returns-then-not-test : goal.returns-then-not-test
returns-then-not-test g c = λ passes says.
    check_bad passes c.args.self.now c.min.ensures (checked_bad (c.loop-place.invariant passes says) _ c.loop-place-test.true (sym (says _ _ c.test.ensures) ∙ c.if-not-test.true))

pub returns : goal.returns
returns g c = λ passes says.
    subst (CheckedAs passes c.args.self.now) (sym c.ok_or.ensures.value)
    (checked_as passes c.args.self.now c.min.ensures c.get.result c.get.ensures.lookup (full g (goal.at.returns g c).Start) (checked_good (c.loop-place.invariant passes says) c.loop-place-test.false))
