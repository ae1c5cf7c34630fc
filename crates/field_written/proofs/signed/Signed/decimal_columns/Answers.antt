use Rattle.field_written.proofs.Cases.{decimal_need}
use Rattle.field_written.proofs.signed.Signed.decimal_columns.Goals as goal

pub returns-clause-count : goal.returns-clause-count
returns-clause-count c =
    rw c.max.ensures (decimal_need c.args.self.sign c.args.d c.args.self.magnitude c.width.ensures.columns c.digit_count.ensures.count)
