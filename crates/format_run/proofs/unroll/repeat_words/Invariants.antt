use Rattle.std.proofs.Common.{◌≡◌, take}
use Rattle.format_items.specs.Met.{repeat}
use Rattle.format_run.proofs.unroll.repeat_words.Given as goal

abbrev pub invariant-loop-i : goal.invariant-loop-i
invariant-loop-i l = take l.i l.run ≡ take l.i (repeat l.r (take l.n l.initial.run))
