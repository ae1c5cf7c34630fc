-- A call one level deeper falls by 2; `read_items` calls `read_item` at the same level.
use Rattle.std.proofs.Common.{◌+◌, ◌*◌, ◌-◌, length}
use Rattle.format_read.proofs.GroupSteps.{SoFar}
use Rattle.format_read.proofs.Position.+read_item_read_items.Given as goal

abbrev pub decreases-read_item : goal.decreases-read_item
decreases-read_item l = l.level * 2

abbrev pub decreases-read_items : goal.decreases-read_items
decreases-read_items l = l.level * 2 + 1

abbrev pub invariant-read_items-loop-self : goal.invariant-read_items-loop-self
invariant-read_items-loop-self l = SoFar l.level l.initial.self l.initial.entries l.initial.chars l.self l.entries l.chars

abbrev pub decreases-read_items-loop-self : goal.decreases-read_items-loop-self
decreases-read_items-loop-self l = length l.self.text.now - l.self.at
