use mathlib.Core.Path.{refl}
use native.Mathlib.Omega.{arith}
use Rattle.format_grammar.proofs.Promises.{outcome_long}
use Rattle.format_check.proofs.check.check.Goals as goal

pub returns-in_default : goal.returns-in_default
returns-in_default c = rw (outcome_long c.args.format.now (omega arith)) (record { answers = refl; number = refl; place = refl })
