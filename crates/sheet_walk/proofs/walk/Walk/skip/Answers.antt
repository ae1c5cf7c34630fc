use native.Mathlib.Omega.{arith}
use Rattle.sheet_walk.proofs.walk.Walk.skip.Goals as goal

-- (The check finds this alone. It stands here so that the wrong version `column_past_the_width` is refused by a fact.)
pub invariant_of-self-clause-to : goal.invariant_of-self-clause-to
invariant_of-self-clause-to c = omega (arith, c.if-n-self.true)
