use mathlib.Core.Path.{◌≡◌, sym, ◌∙◌}
use mathlib.Core.Bool.{true, ◌&&◌}
use native.Mathlib.Omega.{arith}
use Prim.Native.Nat.{◌≤◌}
use lib.Dec.{leb}
use lib.ListN.{length}
use Rattle.std.proofs.Common.{rules}
use Rattle.list_text.proofs.DigitReads.{so_far_none, so_far_low, so_far_more, so_far_wrong, so_far_all, digits_short, digits_outside, digits_wrong, digits_right}
use Rattle.list_text.proofs.digits.read_digits.Goals as goal
use Rattle.list_text.proofs.digits.read_digits.Goals.{Else-not-contains}

few : (c : Else-not-contains) → (leb 1 (length c.args.s.now) && leb (length c.args.s.now) c.args.most) ≡ true
few c =
    let told : c.contains.result ≡ (leb 1 (length c.args.s.now) && leb (length c.args.s.now) c.args.most) = search rules in
    sym told ∙ c.if-not-contains.false

short : (c : Else-not-contains) → length c.args.s.now ≤ c.args.most
short c = digits_short _ _ (few c)

pub returns-then-not-contains : goal.returns-then-not-contains
returns-then-not-contains c =
    let told : c.contains.result ≡ (leb 1 (length c.args.s.now) && leb (length c.args.s.now) c.args.most) = search rules in
    digits_outside _ _ (sym told ∙ c.if-not-contains.true)

pub loop-b-init : goal.loop-b-init
loop-b-init c = so_far_none

pub returns-then-not-is_ascii_digit : goal.returns-then-not-is_ascii_digit
returns-then-not-is_ascii_digit c = digits_wrong _ _ (few (goal.at.returns-then-not-is_ascii_digit c).Else-not-contains)
    (so_far_wrong c.loop-b.invariant c.loop-b-test.true (sym c.is_ascii_digit.ensures.value ∙ c.if-not-is_ascii_digit.true))

pub overflow_mul-value : goal.overflow_mul-value
overflow_mul-value c = omega (arith, so_far_low c.loop-b.invariant (omega (arith, short (goal.at.overflow_mul-value c).Else-not-contains)))

pub overflow_add-value : goal.overflow_add-value
overflow_add-value c = omega (arith, so_far_low c.loop-b.invariant (omega (arith, short (goal.at.overflow_add-value c).Else-not-contains)), c.from.ensures, c.if-not-is_ascii_digit.ensures.bound)

pub loop-b-preserved : goal.loop-b-preserved
loop-b-preserved c = rw c.from.ensures (so_far_more c.loop-b.invariant c.loop-b-test.true (sym c.is_ascii_digit.ensures.value ∙ c.if-not-is_ascii_digit.false))

pub returns : goal.returns
returns c = digits_right _ _ (few (goal.at.returns c).Else-not-contains) (so_far_all c.loop-b.invariant c.loop-b-test.false)
