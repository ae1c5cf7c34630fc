use native.Mathlib.Omega.{arith}
use native.Mathlib.Nat.{min-le_right}
use lib.ListN.{length, length-take}
use Rattle.format_load.proofs.load.load.Goals as goal

-- (The check finds this alone. It stands here so that the wrong version `return_to_the_whole_format` is refused by a fact.)
pub returns : goal.returns
returns c =
    let e = c.load_into.auto.run in (
      c.in_ok-unrolled.ensures.1.held,
      omega (arith, min-le_right c.in_ok-unrolled.unrolled.end (length c.load_into.new.run), length-take c.in_ok-unrolled.unrolled.end c.load_into.new.run, e),
      c.load_into.auto.chars,
    )
