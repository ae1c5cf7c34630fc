use Rattle.std.proofs.Common.{◌≡◌, length}
use Rattle.sheet_walk.specs.Followed.{left_of}
use Rattle.sheet_walk.proofs.Puts.{puts}
use Rattle.write_passes.proofs.CheckLaws.{Checking}
use Rattle.write_passes.proofs.checking.check_pass.Given as goal

abbrev pub invariant-loop-place : goal.invariant-loop-place
invariant-loop-place l = Checking l.fn.sheet l.walk l.at_once × (length l.covers ≡ length l.initial.covers)

abbrev pub decreases-loop-place : goal.decreases-loop-place
decreases-loop-place l = puts (left_of l.walk)
