use mathlib.Core.Path.{sym, ◌∙◌}
use Rattle.field_written.specs.Numeral.{F}
use Rattle.field_read.proofs.Cases.{read_nothing, signed_reads}
use Rattle.field_read.proofs.decimal.read_decimal.Goals as goal

pub returns-in-None : goal.returns-in-None
returns-in-None c = read_nothing (F _) _ c.in-None.ensures

pub returns-in-Some : goal.returns-in-Some
returns-in-Some c = c.read_units.ensures ∙ sym (signed_reads c.in-Some.ensures (F _))
