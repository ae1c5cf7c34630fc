use Rattle.number.proofs.Making.{Made}
use Rattle.number.proofs.put.put.Given as goal

abbrev pub invariant-loop-i : goal.invariant-loop-i
invariant-loop-i g l = Made l.initial.part (g.N.Tens.value l.fn.m) l.part (g.N.Tens.value l.rest) l.i
