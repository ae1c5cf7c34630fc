use mathlib.Core.Path.{refl}
use Rattle.format_read.proofs.SingleSteps.{passed_on}
use Rattle.format_read.proofs.TakeSteps.{moved, took_literal, literal_wrong}
use Rattle.format_read.proofs.Position.read_literal_item.Goals as goal

pub returns-in_err-literal : goal.returns-in_err-literal
returns-in_err-literal c =
    let begun = c.requires.at_in_bounds in
    λ l. rw (passed_on c.from_residual.ensures.1) (literal_wrong _ _ _ _ begun.0 begun.1 begun.2 c.in_err-literal.ensures l)

pub returns : goal.returns
returns c =
    let begun = c.requires.at_in_bounds in
    λ l. took_literal c.requires.room.0 c.requires.room.1 c.in_ok-literal.ensures begun.0 begun.1 begun.2 (moved refl) l _ _ c.of-word.ensures refl
