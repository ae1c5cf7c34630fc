use mir.Facts.{to_z-of_z}
use native.Mathlib.Omega.{arith}
use Rattle.number.proofs.RoundingLaws.{fewer_small, more_large}
use Rattle.number.proofs.rounding.too_large.Goals as goal

pub returns-then-wanted-places : goal.returns-then-wanted-places
returns-then-wanted-places c = fewer_small c.args.units c.args.places c.args.wanted c.requires.0 c.if-wanted-places.true

pub returns : goal.returns
returns c = more_large c.args.units c.args.places c.args.wanted c.if-wanted-places.false (omega (arith, c.requires)) c.power_of_ten.ensures.power (simp (to_z-of_z c.ranges.units) at c.unsigned_abs.ensures.value)
