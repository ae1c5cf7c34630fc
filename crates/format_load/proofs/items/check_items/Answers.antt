use native.Mathlib.Omega.{arith}
use Rattle.std.proofs.lemmas.Result.{err_from_is_err_and}
use Rattle.format_load.proofs.ItemRows.{row_grammar, row_range, row_size, row_none}
use Rattle.format_load.proofs.items.check_items.Goals as goal

pub returns-in_err-end : goal.returns-in_err-end
returns-in_err-end c =
    let p = err_from_is_err_and c.from_residual.result c.from_residual.ensures.1 in
    rw (p.1, p.2) (row_grammar _ c.requires.0 c.in_err-end.ensures)

pub returns-in-Some : goal.returns-in-Some
returns-in-Some c = row_range _ c.requires.0 c.in_ok-end.ensures c.in-Some.is

pub returns-then-size-gt-LARGEST_SIZE : goal.returns-then-size-gt-LARGEST_SIZE
returns-then-size-gt-LARGEST_SIZE c =
    let i = c.in_ok-end.ensures in
    row_size _ c.requires.0 i c.in_default.is _ (c.size_of-size.ensures.sized _ _ i.read i.holds) c.if-size-gt-LARGEST_SIZE.true

pub returns : goal.returns
returns c =
    let i = c.in_ok-end.ensures in
    row_none _ c.requires.0 i c.in_default.is _ (c.size_of-size.ensures.sized _ _ i.read i.holds) c.if-size-gt-LARGEST_SIZE.false (omega (arith, c.requires.1, c.read_format.auto.entries)) (omega (arith, c.requires.2, c.read_format.auto.chars))
