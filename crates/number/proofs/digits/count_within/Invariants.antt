use Prim.Native.Nat.{◌≤◌, ◌<◌}
use Rattle.number.specs.Digits.{digit_count}
use Rattle.number.proofs.digits.count_within.Given as goal

abbrev pub invariant-loop-n : goal.invariant-loop-n
invariant-loop-n l = (0 < l.n) × (l.n ≤ digit_count l.m)
