use Prim.Native.Nat.{◌-◌}
use lib.ListN.{length}
use Rattle.format_read.proofs.LiteralSteps.{LiteralSoFar}
use Rattle.format_read.proofs.literals.read_literal.Given as goal

abbrev pub invariant-loop-p : goal.invariant-loop-p
invariant-loop-p l = LiteralSoFar l.text l.at l.m l.initial.chars l.c l.chars l.p l.n

abbrev pub decreases-loop-p : goal.decreases-loop-p
decreases-loop-p l = length l.text - l.p
