use mathlib.Core.Path.{refl, sym}
use native.Mathlib.Omega.{arith}
use Rattle.format_grammar.specs.Reading.{Use}
use Rattle.format_read.proofs.SingleSteps.{passed_on, number_last}
use Rattle.format_read.proofs.HeadSteps.{too_deep, opened, mark_after_digits}
use Rattle.format_read.proofs.TakeSteps.{moved}
use Rattle.format_read.proofs.Position.read_head.Goals as goal

pub returns-then-self-next : goal.returns-then-self-next
returns-then-self-next c = number_last c.read_number-m.ensures Use.start c.if-self-next.true _

pub returns-then-level-eq0 : goal.returns-then-level-eq0
returns-then-level-eq0 c = too_deep c.args.self.now c.read_number-m.ensures (omega (arith, c.if-self-next.false)) c.if-b-eq40.true c.if-level-eq0.true

pub returns-then-b-eq40 : goal.returns-then-b-eq40
returns-then-b-eq40 c = opened c.args.self.now c.read_number-m.ensures (omega (arith, c.if-self-next.false)) c.if-b-eq40.true c.if-level-eq0.false _ _ c.unwrap_or.ensures c.look_at_repeat.ensures (moved refl) _ _

pub returns-in_err-read_single_item : goal.returns-in_err-read_single_item
returns-in_err-read_single_item c = rw (passed_on c.from_residual.ensures.1) (c.in_err-read_single_item.ensures _ c.args.chars.now)

pub returns-then-is_some : goal.returns-then-is_some
returns-then-is_some c = mark_after_digits c.read_number-m.ensures (omega (arith, c.if-self-next.false)) (sym c.if-is_some.ensures) (sym c.if-not-is_mark.ensures) _
