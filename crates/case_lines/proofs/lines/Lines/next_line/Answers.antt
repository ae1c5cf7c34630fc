use Rattle.std.proofs.Common.{rules, arith, ◌≡◌, ap, ◌∙◌, ◌+◌, ◌-◌, ◌<◌, length}
use Rattle.list_text.specs.Lines.{first_line}
use Rattle.list_text.proofs.Longest.{after_long}
use Rattle.case_lines.proofs.lines.Lines.next_line.Goals as goal
use Rattle.case_lines.proofs.lines.Lines.next_line.Goals.{After-split_line}

-- what is left after the line
left : (c : After-split_line) → length c.split_line.result.1.now ≡ length c.args.self.now.rest.now - (length (first_line c.args.self.now.rest.now) + 1)
left c = ap length c.split_line.ensures.rest ∙ after_long c.args.self.now.rest.now

pub returns-clause-no_more : goal.returns-clause-no_more
returns-clause-no_more c = omega (arith, left (goal.at.returns-clause-no_more c).After-split_line)

pub returns-clause-fewer : goal.returns-clause-fewer
returns-clause-fewer c =
    let some : 0 < length c.args.self.now.rest.now = search rules in
    omega (arith, some, left (goal.at.returns-clause-fewer c).After-split_line)
