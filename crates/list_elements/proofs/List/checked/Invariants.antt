-- The elements before the place pass the test.
use Rattle.std.proofs.Common.{◌≡◌, Bool}
use Rattle.list_elements.specs.declared.Value.{Value}
use Rattle.list_elements.proofs.Checking.{Checked}
use Rattle.list_elements.proofs.List.checked.Given as goal

abbrev pub invariant-loop-place : goal.invariant-loop-place
invariant-loop-place g l = (passes : Value → Bool) → ((v : Value) (b : Bool) → goal.F-post g l.test v b → b ≡ passes v) → Checked passes l.looked_at l.place
