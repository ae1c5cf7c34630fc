use Rattle.field_written.proofs.Cases.{integer_need}
use Rattle.field_written.proofs.signed.Signed.integer_columns.Goals as goal

pub returns-clause-count : goal.returns-clause-count
returns-clause-count c = integer_need _ c.args.self.magnitude c.width.ensures.columns c.digit_count.ensures.count
