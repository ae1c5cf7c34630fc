use Rattle.std.proofs.Common.{◌≡◌, ◌+◌}
use Rattle.format_read.proofs.DigitSteps.{DigitsSoFar}
use Rattle.format_read.proofs.digits.read_number.Given as goal

abbrev pub invariant-loop-b : goal.invariant-loop-b
invariant-loop-b l = record { digits : DigitsSoFar l.text l.at l.value l.next; next_is : l.next ≡ l.at + l.b-index }
