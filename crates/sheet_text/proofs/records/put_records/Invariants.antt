use Rattle.sheet_text.proofs.LineLaws.{Listed}
use Rattle.sheet_text.proofs.records.put_records.Given as goal

abbrev pub invariant-loop-i : goal.invariant-loop-i
invariant-loop-i l = Listed l.width l.count l.records l.initial.dst l.dst l.i
