use Rattle.std.proofs.Common.{◌≡◌, refl, sym, subst, take, rules}
use Rattle.std.specs.List.{take-map}
use Rattle.list_elements.specs.Elements.{value_of, values}
use Rattle.list_elements.specs.Limits.{within_limits, good, list_check}
use Rattle.list_elements.specs.Checked.{CheckedAs}
use Rattle.list_elements.proofs.GoodLaws.{good_all}
use Rattle.list_elements.proofs.List.listed.Goals as goal
use Rattle.list_elements.proofs.List.listed.Goals.{In_ok-elements}

-- what the check says
checked : (c : In_ok-elements) → (list_check c.args.area.now c.args.self.now ≡ good) × (c.in_ok-elements.elements.now ≡ take c.args.self.now.count c.args.self.now.elements)
checked c = subst (CheckedAs (within_limits c.args.area.now) c.args.self.now) c.in_ok-elements.was (c.checked.ensures (within_limits c.args.area.now) (λ v b p. search rules))

pub invariant_of-result : goal.invariant_of-result
invariant_of-result c =
    let k = checked (goal.at.invariant_of-result c).In_ok-elements in
    record { within = good_all (within_limits c.args.area.now) c.args.self.now c.in_ok-elements.elements.now k.0 k.1 }

pub returns : goal.returns
unfolding values
returns c =
    let k = checked (goal.at.returns c).In_ok-elements in
    (k.0, rw k.1 (sym (take-map value_of c.args.self.now.count c.args.self.now.elements)), refl)
