use Rattle.std.proofs.Common.{◌≡◌, length}
use Rattle.sheet_walk.specs.Followed.{left_of}
use Rattle.sheet_walk.proofs.Puts.{puts}
use Rattle.read_passes.proofs.PassLaws.{Reading}
use Rattle.read_passes.proofs.reading.read_parts.Given as goal

abbrev pub invariant-loop-place : goal.invariant-loop-place
invariant-loop-place l = (length l.found ≡ length l.initial.found) × (length l.covers ≡ length l.initial.covers) × Reading l.fn.sheet l.walk l.found

abbrev pub decreases-loop-place : goal.decreases-loop-place
decreases-loop-place l = puts (left_of l.walk)
