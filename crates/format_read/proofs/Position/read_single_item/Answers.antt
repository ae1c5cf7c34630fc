use mathlib.Core.Path.{refl}
use Rattle.format_read.proofs.TakeSteps.{moved, took_single}
use Rattle.format_read.proofs.Position.read_single_item.Goals as goal

pub returns : goal.returns
returns c = λ l t. took_single c.requires.room c.in_ok-single.ensures _ c.of.ensures (moved refl) refl t
