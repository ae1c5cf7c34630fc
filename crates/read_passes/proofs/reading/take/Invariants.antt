use Rattle.std.proofs.Common.{◌≡◌, ℕ, length}
use Rattle.sheet_walk.specs.Walk.{Trace}
use Rattle.read_passes.specs.Passes.{BeginsIn}
use Rattle.read_passes.proofs.PassLaws.{Taking}
use Rattle.read_passes.proofs.reading.take.Given as goal

abbrev pub invariant-loop-cover : goal.invariant-loop-cover
invariant-loop-cover l =
    (length l.found ≡ length l.initial.found)
    × ((j : ℕ) (whole left : Trace) → BeginsIn l.fn.sheet l.fn.first l.fn.covers whole j left
    → Taking l.fn.sheet l.fn.covers l.initial.found l.fn.first l.cover-index l.taken l.found whole j left)
