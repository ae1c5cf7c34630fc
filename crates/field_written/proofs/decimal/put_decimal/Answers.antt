use native.Mathlib.Omega.{arith}
use Rattle.std.proofs.Common.{rules}
use Rattle.field_written.proofs.Cases.{Showing, decimal_rest, decimal_shows}
use Rattle.field_written.proofs.decimal.put_decimal.Goals as goal
use Rattle.field_written.proofs.decimal.put_decimal.Goals.{After-shown_digits-k}
use lib.ListN.{length}

-- the code's numbers show the field
counted : (c : After-shown_digits-k) → Showing (length c.args.part.now) c.args.n.sign c.args.d c.args.n.magnitude c.width.result c.shown_digits-k.result
counted c =
    decimal_shows
    record { columns = c.width.ensures.columns; needed = c.requires.needed; room = c.requires.room; shown = c.shown_digits-k.ensures }

pub overflow_add-rest-2 : goal.overflow_add-rest-2
overflow_add-rest-2 c = search (rules, decimal_rest c.args.n.sign c.args.d c.args.n.magnitude c.width.ensures.columns c.requires.needed)

pub overflow_sub-need : goal.overflow_sub-need
overflow_sub-need c = decimal_rest _ _ _ c.width.ensures.columns c.requires.needed

pub overflow_sub-free : goal.overflow_sub-free
overflow_sub-free c = omega (arith, (counted (goal.at.overflow_sub-free c).After-shown_digits-k).fits)

pub overflow_sub-free-2 : goal.overflow_sub-free-2
overflow_sub-free-2 c = omega (arith, (counted (goal.at.overflow_sub-free-2 c).After-shown_digits-k).fits)

pub put_numeral-requires : goal.put_numeral-requires
put_numeral-requires c = omega (arith, (counted (goal.at.put_numeral-requires c).After-shown_digits-k).fits, c.width.ensures.columns, c.split_at_mut-blanks.ensures)

pub returns : goal.returns
returns c =
    let w = counted (goal.at.returns c).After-shown_digits-k in
    rw w.is (search rules)
