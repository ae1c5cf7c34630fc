use mathlib.Core.Path.{ap, ◌∙◌}
use native.Mathlib.Omega.{arith}
use Prim.Native.Nat.{◌≤◌}
use lib.ListN.{length}
use Rattle.std.proofs.Common.{rules}
use Rattle.sheet_walk.specs.Answers.{answer_records}
use Rattle.sheet_text.proofs.TextLaws.{text_records}
use Rattle.console.specs.HostAnswers.{host_write_number}
use Rattle.console.proofs.trimsheet_write.Goals as goal

pub write_answer-requires : goal.write_answer-requires
write_answer-requires c =
    let n : answer_records c.write_list_text.result ≤ length c.args.records.now =
    rw c.write_list_text.ensures.answers (text_records c.args.width c.args.format.now c.args.text.now c.args.records.now) in
    omega (arith, n)

-- (The check finds this alone. It stands here so that the wrong version `format_and_list_swapped` is refused by a fact.)
pub returns-clause-answers : goal.returns-clause-answers
returns-clause-answers c = (search rules) ∙ c.write_answer.ensures ∙ ap host_write_number c.write_list_text.ensures.answers
