use mathlib.Core.Path.{◌∙◌}
use Rattle.list_elements.proofs.LimitLaws.{text_inside, text_outside}
use Rattle.list_elements.proofs.Text.is_within_limits.Goals as goal

pub returns-then-has_length : goal.returns-then-has_length
returns-then-has_length c =
    let inside = c.in-Some.ensures in
    c.all_printable.ensures ∙ rw inside.1 (rw (← c.has_length.ensures, c.if-has_length.true) at (text_inside c.args.area.now c.args.self inside.0))

pub returns-else-has_length : goal.returns-else-has_length
returns-else-has_length c =
    let inside = c.in-Some.ensures in
    c.if-has_length.false ∙ (rw (← c.has_length.ensures, c.if-has_length.false) at (text_inside c.args.area.now c.args.self inside.0))

pub returns-in-None : goal.returns-in-None
returns-in-None c = text_outside c.args.area.now c.args.self c.in-None.ensures
