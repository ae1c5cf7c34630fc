use Rattle.std.proofs.Common.{rules, ◌≡◌, ap, ◌∙◌}
use Rattle.std.specs.Prelude.{Err}
use Rattle.list_text.specs.ListText.{line_values, line_check}
use Rattle.sheet_walk.specs.declared.Refusal.TheVariants.{RecordWidth}
use Rattle.sheet_walk.proofs.WidthLaws.{width_is, width_refused}
use Rattle.sheet_write.proofs.WriteLaws.{width_refuses}
use Rattle.sheet_write.proofs.Whole.{wrote_listed, promised}
use Rattle.sheet_text.proofs.writing.write_list_text.Goals as goal

pub returns-in_err-width : goal.returns-in_err-width
returns-in_err-width c =
    let n = width_refused c.args.width c.try_from.ensures c.in_err-width.was in
    let r : c.from_residual.result ≡ Err RecordWidth = let q : c.from_residual.result ≡ Err c.in_err-width.field-0.0 = search rules in q ∙ ap (λ x. Err x) n.0 in
    let p = promised (width_refuses c.args.width c.args.format.now (line_check c.args.text.now) {vs = line_values c.args.text.now} n.1) in
    rw r (record { answers = p.answers; bytes = p.bytes; number = p.number; place = p.place; records = p.records; starred = p.starred })

pub returns : goal.returns
returns c =
    let u = rw (width_is c.args.width c.try_from.ensures c.in_ok-width.was) at c.write_under.ensures in
    let p = promised (wrote_listed c.args.format.now (line_check c.args.text.now) (line_values c.args.text.now) c.args.text.now c.listed.result c.listed.ensures u) in
    record { answers = p.answers; bytes = p.bytes; number = p.number; place = p.place; records = p.records; starred = p.starred }
