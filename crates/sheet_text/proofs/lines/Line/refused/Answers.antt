use Rattle.buffer.specs.Characters.{bytes}
use Rattle.sheet_text.proofs.PutLaws.{refused_are}
use Rattle.sheet_text.proofs.lines.Line.refused.Goals as goal

pub returns : goal.returns
unfolding bytes
returns c = rw (c.push-3.ensures, c.push_number-2.ensures.digits, c.push-2.ensures, c.push_number.ensures.digits, c.push.ensures, c.new-line.ensures) (refused_are c.args.number c.args.place)
