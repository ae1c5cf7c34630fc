use Rattle.std.proofs.Common.{rules, ◌≡◌, refl, sym, ◌∙◌, ◌*◌, ◌≤◌, length}
use Rattle.std.specs.Prelude.{Err}
use lib.Seq.{length-take-le}
use Rattle.buffer.proofs.Splicing.{splice_front}
use Rattle.sheet_write.proofs.WriteLaws.{check_accepted, check_whole, check_refused, reached, wrote_accepted, whole_begins, whole_plain, whole_stars, whole_bytes}
use Rattle.sheet_write.proofs.records.write_parts.Goals as goal
use Rattle.sheet_write.proofs.records.write_parts.Goals.{In_ok-checked}

-- (The check finds this alone. It stands here so that the wrong version `first_record_blanked_on_refusal` is refused by a fact.)
pub returns-in_err-checked : goal.returns-in_err-checked
returns-in_err-checked c =
    let r : c.from_residual.result ≡ Err c.in_err-checked.field-0.0 = search rules in
    rw (r, check_refused c.args.sheet c.check_pass.new.covers _ c.check_pass.ensures c.in_err-checked.was) (record { answers = refl; bytes = refl })

-- the records reached lie within the buffer
filled : (c : In_ok-checked) → c.in_ok-checked.checked.records * c.args.sheet.records.width ≤ length c.args.buffer.now
filled c = reached c.args.sheet (check_accepted c.args.sheet c.check_pass.new.covers _ c.check_pass.ensures c.in_ok-checked.was).0 c.requires.room

pub overflow_mul-checked : goal.overflow_mul-checked
overflow_mul-checked c = let h = filled (goal.at.overflow_mul-checked c).In_ok-checked in search rules

pub slice_bounds-fill-end : goal.slice_bounds-fill-end
slice_bounds-fill-end c = filled (goal.at.slice_bounds-fill-end c).In_ok-checked

pub slice_bounds-fill-end-2 : goal.slice_bounds-fill-end-2
slice_bounds-fill-end-2 c = sym (length-take-le _ _ (filled (goal.at.slice_bounds-fill-end-2 c).In_ok-checked))

pub lay-starred-requires-clause-begins : goal.lay-starred-requires-clause-begins
lay-starred-requires-clause-begins c =
    let covers = c.check_pass.new.covers in
    let a = (check_accepted c.args.sheet covers _ c.check_pass.ensures c.in_ok-checked.was).0 in
    whole_begins c.args.sheet a (check_whole c.args.sheet covers _ c.check_pass.ensures c.in_ok-checked.was c.in-Some.is)

pub lay-starred-requires-clause-plain : goal.lay-starred-requires-clause-plain
lay-starred-requires-clause-plain c =
    let covers = c.check_pass.new.covers in
    let a = (check_accepted c.args.sheet covers _ c.check_pass.ensures c.in_ok-checked.was).0 in
    λ e. whole_plain c.args.sheet a (check_whole c.args.sheet covers _ c.check_pass.ensures c.in_ok-checked.was c.in-Some.is) (sym c.has_sp.ensures ∙ e)

pub lay_pass-starred-requires-clause-accepts : goal.lay_pass-starred-requires-clause-accepts
lay_pass-starred-requires-clause-accepts c =
    record { n = c.in_ok-checked.checked.records; accepts = (check_accepted c.args.sheet c.check_pass.new.covers _ c.check_pass.ensures c.in_ok-checked.was).0 }

pub returns-in-Some : goal.returns-in-Some
returns-in-Some c =
    let covers = c.check_pass.new.covers in
    let f = filled (goal.at.returns-in-Some c).In_ok-checked in
    let a = (check_accepted c.args.sheet covers _ c.check_pass.ensures c.in_ok-checked.was).0 in
    let w = check_whole c.args.sheet covers _ c.check_pass.ensures c.in_ok-checked.was c.in-Some.is in
    wrote_accepted c.args.sheet a
    (splice_front c.args.buffer.now (c.in_ok-checked.checked.records * c.args.sheet.records.width) c.fill.new.self f c.fill.auto.self
    (rw (length-take-le _ _ f) at (c.fill.ensures.after (λ y e. e))))
    (whole_stars c.args.sheet a w c.lay-starred.ensures.stars) (whole_bytes c.args.sheet a w _ c.lay-starred.ensures.bytes)

pub returns-in-None : goal.returns-in-None
returns-in-None c =
    let f = filled (goal.at.returns-in-None c).In_ok-checked in
    wrote_accepted c.args.sheet (check_accepted c.args.sheet c.check_pass.new.covers _ c.check_pass.ensures c.in_ok-checked.was).0
    (splice_front c.args.buffer.now (c.in_ok-checked.checked.records * c.args.sheet.records.width) c.fill.new.self f c.fill.auto.self
    (rw (length-take-le _ _ f) at (c.fill.ensures.after (λ y e. e))))
    c.lay_pass-starred.ensures.stars c.lay_pass-starred.ensures.bytes
