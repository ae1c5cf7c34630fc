use Rattle.std.proofs.Common.{rules, ◌≡◌, ap, ◌∙◌}
use Rattle.std.specs.Prelude.{Err}
use Rattle.list_elements.specs.Elements.{values}
use Rattle.list_elements.specs.Limits.{list_check}
use Rattle.sheet_walk.specs.declared.Refusal.TheVariants.{RecordWidth}
use Rattle.sheet_walk.proofs.WidthLaws.{width_is, width_refused}
use Rattle.sheet_write.proofs.WriteLaws.{width_refuses}
use Rattle.sheet_write.proofs.Whole.{wrote_listed, promised}
use Rattle.sheet_write.proofs.write.write.Goals as goal

pub returns-in_err-width : goal.returns-in_err-width
returns-in_err-width c =
    let n = width_refused c.args.width c.try_from.ensures c.in_err-width.was in
    let r : c.from_residual.result ≡ Err RecordWidth = (let q : c.from_residual.result ≡ Err c.in_err-width.field-0.0 = search rules in q ∙ ap (λ x. Err x) n.0) in
    let p = promised (width_refuses c.args.width c.args.format.now (list_check c.args.area.now c.args.list) n.1) in
    rw r (record { answers = p.answers; bytes = p.bytes; number = p.number; place = p.place; records = p.records; starred = p.starred })

pub returns : goal.returns
returns c =
    let u = rw (width_is c.args.width c.try_from.ensures c.in_ok-width.was) at c.write_under.ensures in
    let p = promised (wrote_listed c.args.format.now (list_check c.args.area.now c.args.list) (values c.args.list) c.args.area.now c.listed.result c.listed.ensures u) in
    record { answers = p.answers; bytes = p.bytes; number = p.number; place = p.place; records = p.records; starred = p.starred }
