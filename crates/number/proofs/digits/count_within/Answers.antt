use mathlib.Core.Path.{◌≡◌}
use Prim.Native.Nat.{◌^◌}
use native.Mathlib.Omega.{arith}
use lib.ListN.{get_or}
use Rattle.number.proofs.PowerLaws.{table_at}
use Rattle.number.proofs.DigitLaws.{count_more, count_found}
use Rattle.number.proofs.digits.count_within.Goals as goal
use Rattle.number.proofs.digits.count_within.Goals.{In-loop-n}

-- the power that a turn looks up
power : (c : In-loop-n) → get_or c.table-powers.result c.loop-n.n 0 ≡ 10 ^ c.loop-n.n
power c = table_at c.table-powers.result c.loop-n.n c.table-powers.ensures.all (omega arith)

pub returns-then-m-powers : goal.returns-then-m-powers
returns-then-m-powers c = count_found c.args.m c.loop-n.n c.loop-n.invariant.0 c.loop-n.invariant.1 (rw (power (goal.at.returns-then-m-powers c).In-loop-n) at c.if-m-powers.true)

pub loop-n-preserved : goal.loop-n-preserved
loop-n-preserved c = (
  omega arith,
  count_more c.args.m c.loop-n.n (rw (power (goal.at.loop-n-preserved c).In-loop-n) at c.if-m-powers.false),
)
