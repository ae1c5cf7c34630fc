-- The code's table is compared with `tens 0 19`, whose rule is a law.
use mathlib.Core.Path.{refl}
use borrow.Author.Rules.{rules}
use Rattle.number.specs.Powers.{tens, powers_of_ten}
use Rattle.number.proofs.PowerLaws.{table_at}
use Rattle.number.proofs.powers.power_of_ten.Goals as goal

pub returns-clause-power : goal.returns-clause-power
unfolding tens
returns-clause-power c = table_at powers_of_ten c.args.k refl (search rules)
