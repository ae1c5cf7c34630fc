use mathlib.Core.Path.{refl, sym, ◌∙◌}
use native.Mathlib.Omega.{arith}
use Rattle.field_read.proofs.Blanks.{first_rest}
use Rattle.field_read.proofs.Cases.{front_nothing, front_plus, front_minus, front_none}
use Rattle.field_read.proofs.leading.read_front.Goals as goal

pub returns-in-empty : goal.returns-in-empty
returns-in-empty c = front_nothing c.args.part.now c.skip_blanks.result.now c.skip_blanks.ensures c.in-empty.len_below

pub returns-in-43 : goal.returns-in-43
returns-in-43 c = front_plus c.args.part.now (sym c.skip_blanks.ensures ∙ first_rest _ c.in-43.len_at_least refl) (omega arith)

pub returns-in-45 : goal.returns-in-45
returns-in-45 c = front_minus c.args.part.now (sym c.skip_blanks.ensures ∙ first_rest _ c.in-45.len_at_least refl) (omega arith)

pub returns-in_default : goal.returns-in_default
returns-in_default c =
    let e = first_rest _ c.in_default.len_at_least refl in
    rw e (front_none c.args.part.now (sym c.skip_blanks.ensures ∙ e) (λ z. omega arith) (λ z. omega arith))
