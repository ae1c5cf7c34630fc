use Rattle.std.proofs.Common.{◌≡◌, ◌-◌, ◌≤◌, length}
use Rattle.sheet_walk.proofs.FieldRuns.{FieldRun}
use Rattle.sheet_walk.proofs.walk.Walk.fields.Given as goal

abbrev pub invariant-loop-count : goal.invariant-loop-count
invariant-loop-count l = FieldRun l.fn.self l.covers l.count l.columns × (length l.covers ≡ length l.initial.covers) × (l.count ≤ l.most)

abbrev pub decreases-loop-count : goal.decreases-loop-count
decreases-loop-count l = l.most - l.count
