use Rattle.std.proofs.Common.{rules, ◌≡◌}
use Rattle.std.specs.Prelude.{Err}
use Rattle.sheet_walk.specs.declared.Refusal.TheVariants.{Format}
use Rattle.sheet_walk.proofs.WidthLaws.{right}
use Rattle.sheet_write.proofs.WriteLaws.{format_text}
use Rattle.sheet_write.proofs.formats.write_under.Goals as goal

pub returns-in_err-with_run : goal.returns-in_err-with_run
returns-in_err-with_run c =
    let e = c.in_err-with_run in
    let r : c.from_residual.result ≡ Err (Format e.field-0.0) = search rules in
    rw (r, e.ensures.1) (format_text c.args.width.columns c.args.format.now c.args.list c.args.buffer.now (right c.args.width) e.ensures.0)
