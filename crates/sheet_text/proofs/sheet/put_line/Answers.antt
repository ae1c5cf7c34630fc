use native.Mathlib.Omega.{arith}
use Rattle.sheet_text.proofs.PutLaws.{mid_splice}
use Rattle.sheet_text.proofs.sheet.put_line.Goals as goal

pub returns-clause-line : goal.returns-clause-line
returns-clause-line c = rw (c.copy.ensures, c.as_bytes-bytes.ensures.bytes) (mid_splice c.args.output.now c.args.at c.args.line.now (omega arith))
