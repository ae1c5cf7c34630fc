use mathlib.Core.Path.{refl}
use Rattle.number.specs.Powers.{tens}
use Rattle.number.proofs.powers.table.Goals as goal

pub returns-clause-all : goal.returns-clause-all
unfolding tens
returns-clause-all c = refl
