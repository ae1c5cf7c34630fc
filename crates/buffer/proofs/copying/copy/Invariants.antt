-- i bytes are copied.
use Rattle.std.proofs.Common.{◌≡◌, take}
use Rattle.buffer.proofs.copying.copy.Given as goal

abbrev pub invariant-loop-i : goal.invariant-loop-i
invariant-loop-i l = take l.i l.part ≡ take l.i l.bytes
