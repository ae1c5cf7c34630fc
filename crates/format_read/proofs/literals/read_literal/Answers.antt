use mathlib.Core.Path.{sym, ◌∙◌}
use native.Mathlib.Omega.{arith}
use Rattle.format_read.proofs.LiteralSteps.{literal_plain, literal_odd, literal_cut, literal_double, literal_empty, literal_all, literal_open}
use Rattle.format_read.proofs.literals.read_literal.Goals as goal

pub returns-then-text-p : goal.returns-then-text-p
returns-then-text-p c = literal_cut c.loop-p.invariant c.loop-p-test.true c.if-b-m.true c.if-text-p.true

pub returns-then-n-c : goal.returns-then-n-c
returns-then-n-c c = literal_empty c.loop-p.invariant c.loop-p-test.true c.if-b-m.true (omega (arith, c.if-text-p.false)) c.if-text-p-2.true c.if-n-c.true

pub returns-then-text-p-2 : goal.returns-then-text-p-2
returns-then-text-p-2 c = literal_all c.loop-p.invariant c.loop-p-test.true c.if-b-m.true (omega (arith, c.if-text-p.false)) c.if-text-p-2.true c.if-n-c.false

pub loop-p-preserved-then-b-m : goal.loop-p-preserved-then-b-m
loop-p-preserved-then-b-m c = literal_double c.loop-p.invariant c.loop-p-test.true c.if-b-m.true (omega (arith, c.if-text-p.false)) c.if-text-p-2.false (omega (arith, c.loop-p.invariant.fewer, c.loop-p.invariant.long))

pub returns-then-not-is_printable : goal.returns-then-not-is_printable
returns-then-not-is_printable c = literal_odd c.loop-p.invariant c.loop-p-test.true c.if-b-m.false (sym c.is_printable.ensures ∙ c.if-not-is_printable.true)

pub loop-p-preserved : goal.loop-p-preserved
loop-p-preserved c = literal_plain c.loop-p.invariant c.loop-p-test.true c.if-b-m.false (sym c.is_printable.ensures ∙ c.if-not-is_printable.false) (omega (arith, c.loop-p.invariant.fewer, c.loop-p.invariant.long))

pub returns : goal.returns
returns c = literal_open c.loop-p.invariant c.loop-p-test.false
