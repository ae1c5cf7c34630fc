use Rattle.std.proofs.Common.{rules, ◌≡◌, refl, ap, ◌∙◌, length}
use Rattle.std.specs.Prelude.{Err}
use Rattle.list_elements.specs.Limits.{good}
use Rattle.sheet_walk.specs.declared.Refusal.TheVariants.{Element, NoRecord}
use Rattle.sheet_walk.proofs.WidthLaws.{right}
use Rattle.sheet_walk.proofs.RecordLaws.{some_lent, none_lent}
use Rattle.sheet_write.proofs.WriteLaws.{wrote_under, list_refuses, no_record, rows_passed}
use Rattle.sheet_write.proofs.formats.write_run.Goals as goal
use Rattle.sheet_write.proofs.formats.write_run.Goals.{In_ok-records}

pub returns-in_err-list : goal.returns-in_err-list
returns-in_err-list c = λ f h.
    let e = c.in_err-list.field-0.0 in
    let r : c.from_residual.result ≡ Err (Element e.place) = search rules in
    rw (r, c.in_err-list.was) (λ area vs. list_refuses c.args.width.columns f (Err e) (right c.args.width) h.accepts refl)

pub write_records-requires : goal.write_records-requires
write_records-requires c = (some_lent _ _ c.lent.ensures (goal.at.write_records-requires c).In_ok-records.in_ok-records.was).room

pub returns-in_err-records : goal.returns-in_err-records
returns-in_err-records c = λ f h.
    let n = none_lent _ _ c.lent.ensures c.in_err-records.was in
    let r : c.from_residual-in_err-records.result ≡ Err NoRecord = (let q : c.from_residual-in_err-records.result ≡ Err c.in_err-records.field-0.0 = search rules in q ∙ ap (λ x. Err x) n.0) in
    rw (r, c.in_ok-list.was) (no_record c.args.width.columns f good (right c.args.width) h.accepts refl n.1)

pub returns : goal.returns
returns c = λ f h.
    let R = c.args.width.columns in
    let s = some_lent _ _ c.lent.ensures c.in_ok-records.was in
    rw c.in_ok-list.was (rows_passed R f good (right c.args.width) h.accepts refl s.some
    (wrote_under c.in_ok-list.list c.args.run c.in_ok-records.records R (length c.args.buffer.now) s.is h c.write_records.ensures))
