use Rattle.std.proofs.Common.{◌≡◌, length}
use Rattle.read_passes.specs.Passes.{Contents, Found}
use Rattle.read_passes.proofs.GiveLaws.{Giving}
use Rattle.read_passes.proofs.giving.give.Given as goal

abbrev pub invariant-loop-i : goal.invariant-loop-i
invariant-loop-i l =
    ((cs : Contents) → Found l.records l.wanted l.found (length l.initial.area) cs → Giving cs l.initial.area l.area l.list.elements l.at l.i)
    × (length l.area ≡ length l.initial.area)
