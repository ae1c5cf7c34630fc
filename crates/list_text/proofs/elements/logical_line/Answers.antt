use native.Mathlib.Omega.{arith}
use Rattle.list_text.proofs.ElementLaws.{logical_long, logical_true, logical_false, logical_wrong}
use Rattle.list_text.proofs.elements.logical_line.Goals as goal

pub returns-in-84 : goal.returns-in-84
returns-in-84 c = logical_true c.args.s.now (omega arith) (omega arith)

pub returns-in-70 : goal.returns-in-70
returns-in-70 c = logical_false c.args.s.now (omega arith) (λ e. omega arith) (omega arith)

pub returns-in_default : goal.returns-in_default
returns-in_default c = logical_long c.args.s.now (λ e. omega arith)

pub returns-in_default-2 : goal.returns-in_default-2
returns-in_default-2 c = logical_wrong c.args.s.now (omega arith) (λ e. omega arith) (λ e. omega arith)

pub returns-in_default-3 : goal.returns-in_default-3
returns-in_default-3 c = logical_long c.args.s.now (λ e. omega arith)
