use Prim.Native.Nat.{◌-◌}
use lib.ListN.{length}
use Rattle.list_text.proofs.ReadLaws.{Reading}
use Rattle.list_text.proofs.read.read_list.Given as goal

abbrev pub invariant-loop-at : goal.invariant-loop-at
invariant-loop-at l = Reading l.text l.list.elements l.list.count l.at

abbrev pub decreases-loop-at : goal.decreases-loop-at
decreases-loop-at l = length l.text - l.at
