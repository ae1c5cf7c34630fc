use Rattle.std.proofs.Common.{◌≡◌, length}
use Rattle.sheet_walk.specs.Followed.{left_of}
use Rattle.sheet_walk.proofs.Puts.{puts}
use Rattle.write_passes.proofs.LayLaws.{LayingOn}
use Rattle.write_passes.proofs.laying.lay_pass.Given as goal

abbrev pub invariant-loop : goal.invariant-loop
invariant-loop l =
    (length l.buffer ≡ length l.initial.buffer)
    × (length l.covers ≡ length l.initial.covers)
    × LayingOn l.fn.sheet l.initial.buffer l.walk l.starred l.buffer

abbrev pub decreases-loop : goal.decreases-loop
decreases-loop l = puts (left_of l.walk)
