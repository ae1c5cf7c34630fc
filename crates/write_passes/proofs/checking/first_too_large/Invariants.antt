use Rattle.std.proofs.Common.{ℕ}
use Rattle.sheet_walk.specs.Walk.{Trace}
use Rattle.write_passes.specs.Passes.{BeginsIn}
use Rattle.write_passes.proofs.CheckLaws.{Looked}
use Rattle.write_passes.proofs.checking.first_too_large.Given as goal

abbrev pub invariant-loop-cover : goal.invariant-loop-cover
invariant-loop-cover l = (j : ℕ) (whole left : Trace) → BeginsIn l.fn.sheet l.fn.first l.fn.covers whole j left → Looked l.fn.sheet l.fn.covers l.cover-index l.taken whole j left
