use native.Mathlib.Omega.{arith}
use Rattle.std.proofs.Common.{rules}
use Rattle.field_written.proofs.Cases.{integer_digits, integer_shows}
use Rattle.field_written.proofs.integer.put_integer.Goals as goal

pub split_at_mut-front-requires : goal.split_at_mut-front-requires
split_at_mut-front-requires c = omega (arith, integer_digits _ _ c.width.ensures.columns c.requires.needed, c.split_at_mut-blanks.ensures)

pub returns : goal.returns
returns c = let n = integer_digits _ _ c.width.ensures.columns c.requires.needed in
    rw (integer_shows _ _ c.width.ensures.columns c.requires.needed c.requires.room) (search rules)
