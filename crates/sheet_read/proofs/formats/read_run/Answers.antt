use Rattle.std.proofs.Common.{rules, ◌≡◌, refl, sym, ap, ◌∙◌, length}
use Rattle.std.specs.Prelude.{Err}
use Rattle.list_elements.specs.Limits.{good}
use Rattle.list_elements.specs.Elements.{kinds_of}
use Rattle.sheet_walk.specs.Walk.{sheet, walk}
use Rattle.sheet_walk.specs.Given.{run_sheet, given_sheet}
use Rattle.read_passes.specs.Given.{gathered}
use Rattle.read_passes.specs.Passes.{ending_of}
use Rattle.sheet_walk.specs.declared.Refusal.TheVariants.{Element, NoRecord}
use Rattle.sheet_rows.proofs.Loads.{run_sheet_is}
use Rattle.sheet_walk.proofs.WidthLaws.{right}
use Rattle.sheet_walk.proofs.RecordLaws.{some_lent, none_lent}
use Rattle.sheet_read.proofs.ReadLaws.{list_refuses, no_room, no_record, walked}
use Rattle.sheet_read.proofs.formats.read_run.Goals as goal
use Rattle.sheet_read.proofs.formats.read_run.Goals.{In_ok-lent}
use Rattle.sheet_walk.specs.Steps.{Records, records_in}

pub returns-in_err-wanted : goal.returns-in_err-wanted
returns-in_err-wanted c = λ f h.
    let e = c.in_err-wanted.field-0.0 in
    let r : c.from_residual.result ≡ Err (Element e.place) = search rules in
    rw (r, c.in_err-wanted.was) (λ kinds. list_refuses c.args.width.columns f (Err e) kinds c.args.room c.args.records.now (right c.args.width) h.accepts refl)

pub returns-then-not-texts_fit : goal.returns-then-not-texts_fit
returns-then-not-texts_fit c = λ f h.
    rw c.in_ok-wanted.was (no_room c.args.width.columns f good (kinds_of c.in_ok-wanted.wanted.now) c.args.room c.args.records.now (right c.args.width) h.accepts refl (sym c.texts_fit.ensures ∙ c.if-not-texts_fit.true))

pub returns-in_err-lent : goal.returns-in_err-lent
returns-in_err-lent c = λ f h.
    let n = none_lent _ _ c.lent.ensures c.in_err-lent.was in
    let r : c.from_residual-in_err-lent.result ≡ Err NoRecord = (let q : c.from_residual-in_err-lent.result ≡ Err c.in_err-lent.field-0.0 = search rules in q ∙ ap (λ x. Err x) n.0) in
    rw (r, c.in_ok-wanted.was) (no_record c.args.width.columns f good (kinds_of c.in_ok-wanted.wanted.now) c.args.room c.args.records.now (right c.args.width) h.accepts refl (sym c.texts_fit.ensures ∙ c.if-not-texts_fit.false) n.1)

pub returns : goal.returns
returns c = λ f h.
    let es = c.in_ok-wanted.wanted.now in
    let R = c.args.width.columns in
    let records = c.args.records.now in
    let rs = records_in R (length records) in
    let s = some_lent _ _ c.lent.ensures c.in_ok-lent.was in
    let g : gathered c.in_ok-lent.lent.width (kinds_of es) records (walk (given_sheet c.args.run es c.in_ok-lent.lent)) ≡ gathered R (kinds_of es) records (walk (sheet h.items (kinds_of es) rs)) =
    ap (λ (x : Records). gathered x.width (kinds_of es) records (walk (run_sheet c.args.run es x))) s.is ∙ ap (λ z. gathered R (kinds_of es) records (walk z)) (run_sheet_is c.args.run h es rs) in
    rw c.in_ok-wanted.was
    (walked R f good (kinds_of es) c.args.room records (right c.args.width) h.accepts refl (sym c.texts_fit.ensures ∙ c.if-not-texts_fit.false) s.some
    (c.read_pass.ensures.ends ∙ ap ending_of g) (λ cs n e. c.read_pass.ensures.found cs n (g ∙ e)))
