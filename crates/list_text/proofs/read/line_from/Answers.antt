use mathlib.Core.Path.{sym, ◌∙◌}
use Prim.Native.Nat.{◌≤◌}
use native.Mathlib.Omega.{arith}
use lib.ListN.{length, drop, length-drop}
use lib.Seq.{take_all, length-take-le}
use Rattle.list_text.proofs.ElementLaws.{part_rest}
use Rattle.list_text.proofs.read.line_from.Goals as goal

pub returns-then-rest-le-LONGEST_LINE : goal.returns-then-rest-le-LONGEST_LINE
returns-then-rest-le-LONGEST_LINE c =
    let few : length (drop c.args.at c.args.text.now) ≤ 67 = rw length-drop (omega (arith, c.if-rest-le-LONGEST_LINE.true)) in
    c.first_line.ensures ∙ rw (part_rest c.args.text.now c.args.at, take_all 67 (drop c.args.at c.args.text.now) few)

-- (The check finds this alone. It stands here so that the wrong version `long_line_cut` is refused by a fact.)
pub slice_bounds-first_line-end : goal.slice_bounds-first_line-end
slice_bounds-first_line-end c = sym (length-take-le _ _ (omega (arith, c.if-rest-le-LONGEST_LINE.false)))
