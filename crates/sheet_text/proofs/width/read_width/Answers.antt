use Rattle.sheet_text.proofs.WidthLaws.{width_read}
use Rattle.sheet_text.proofs.width.read_width.Goals as goal

pub returns : goal.returns
returns c = rw c.unwrap_or.ensures (rw c.read_digits.ensures (width_read c.args.line.now))
