use Rattle.std.proofs.Common.{◌≡◌, ℕ, ◌≤◌, length}
use Rattle.sheet_walk.specs.Walk.{Trace}
use Rattle.write_passes.specs.Passes.{BeginsIn}
use Rattle.write_passes.proofs.LayLaws.{Laying}
use Rattle.write_passes.proofs.laying.lay_under.Given as goal

abbrev pub invariant-loop-cover : goal.invariant-loop-cover
invariant-loop-cover over l =
    (l.starred ≤ l.cover-index)
    × (length l.buffer ≡ length l.initial.buffer)
    × ((j : ℕ) (whole left : Trace) → BeginsIn l.fn.sheet l.fn.first l.fn.covers whole j left
    → Laying l.fn.sheet l.fn.covers l.initial.buffer l.cover-index l.taken l.starred l.buffer whole j left)
