use Rattle.std.proofs.Common.{◌≡◌, ◌≤◌, length, take}
use Rattle.sheet_walk.specs.Followed.{turns_of}
use Rattle.sheet_walk.proofs.Parts.{Begun}
use Rattle.sheet_walk.proofs.walk.Walk.place.Given as goal

abbrev pub invariant-loop-covers : goal.invariant-loop-covers
invariant-loop-covers l = Begun l.initial.self l.self (take l.count l.covers) × (l.count ≤ length l.covers) × (length l.covers ≡ length l.initial.covers)

abbrev pub decreases-loop-covers : goal.decreases-loop-covers
decreases-loop-covers l = turns_of l.self
