use Prim.Native.Nat.{ℕ, ◌+◌, ◌≤◌, ◌<◌, ◌^◌}
use mathlib.Core.Path.{◌≡◌}
use native.Mathlib.Omega.{arith}
use Rattle.number.specs.Digits.{digit_count}
use Rattle.number.proofs.DigitLaws.{digit_count_least, digit_count_pos, digit_count_few, count_more}
use Rattle.number.proofs.digits.digit_count.Goals as goal

-- how many digits lie between two powers: more than j, and k at most
few : (m p k : ℕ) → p ≡ 10 ^ k → 0 < k → m < p → digit_count m ≤ k
few m p k e h l = digit_count_least m k h (rw e at l)

many : (m p j : ℕ) → p ≡ 10 ^ j → p ≤ m → j + 1 ≤ digit_count m
many m p j e l = count_more m j (rw e at l)

pub count_within-requires : goal.count_within-requires
count_within-requires c =
    let m = c.args.m in
    (omega arith, digit_count_pos m, few m _ 6 c.power_of_ten.ensures.power (omega arith) c.if-m-power_of_ten.true, omega arith)

pub count_within-requires-then-m-power_of_ten-2 : goal.count_within-requires-then-m-power_of_ten-2
count_within-requires-then-m-power_of_ten-2 c = let m = c.args.m in (
  omega arith,
  many m _ 6 c.power_of_ten.ensures.power c.if-m-power_of_ten.false,
  few m _ 12 c.power_of_ten-2.ensures.power (omega arith) c.if-m-power_of_ten-2.true,
  omega arith,
)

pub count_within-requires-2 : goal.count_within-requires-2
count_within-requires-2 c = (omega arith, many c.args.m _ 12 c.power_of_ten-2.ensures.power c.if-m-power_of_ten-2.false, digit_count_few c.args.m c.requires, omega arith)
