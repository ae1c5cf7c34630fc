use Rattle.buffer.specs.Characters.{bytes}
use Rattle.sheet_text.proofs.PutLaws.{counts_are}
use Rattle.sheet_text.proofs.lines.Line.counts.Goals as goal

pub returns : goal.returns
unfolding bytes
returns c = rw (c.push-3.ensures, c.push_number-2.ensures.digits, c.push-2.ensures, c.push_number.ensures.digits, c.push.ensures, c.new-line.ensures) (counts_are c.args.records c.args.starred)
