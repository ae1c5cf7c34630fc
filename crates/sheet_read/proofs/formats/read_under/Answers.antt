use Rattle.std.proofs.Common.{rules, ◌≡◌}
use Rattle.std.specs.Prelude.{Err}
use Rattle.sheet_walk.specs.declared.Refusal.TheVariants.{Format}
use Rattle.sheet_walk.proofs.WidthLaws.{right}
use Rattle.sheet_read.proofs.ReadLaws.{format_text}
use Rattle.sheet_read.proofs.formats.read_under.Goals as goal

pub returns-in_err-with_run : goal.returns-in_err-with_run
returns-in_err-with_run c =
    let e = c.in_err-with_run in
    let r : c.from_residual.result ≡ Err (Format e.field-0.0) = search rules in
    rw r (format_text c.args.width.columns c.args.format.now c.args.wanted c.args.room c.args.records.now c.with_run.new.lent (right c.args.width) e.ensures.0)
