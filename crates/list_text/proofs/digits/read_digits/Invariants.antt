use Rattle.list_text.proofs.DigitReads.{DigitsSoFar}
use Rattle.list_text.proofs.digits.read_digits.Given as goal

abbrev pub invariant-loop-b : goal.invariant-loop-b
invariant-loop-b l = DigitsSoFar l.s l.value l.b-index
