use Rattle.std.proofs.Common.{refl, sym, ap, ℕ, ◌∙◌, ◌+◌, ◌<◌, ◌≤◌, length, arith, rules}
use Rattle.buffer.proofs.Splicing.{splice_lent, length_lent}
use Rattle.sheet_walk.proofs.OneByOne.{cover_at}
use Rattle.write_passes.specs.Passes.{FieldOf}
use Rattle.write_passes.proofs.CheckLaws.{element_value, in_list, is_good, field_of, some_columns}
use Rattle.write_passes.proofs.LayLaws.{counted, at, laying_field, field_small, field_laid, literal_inside, literal_laid, laid_bytes, laid_stars}
use Rattle.write_passes.proofs.laying.lay_under.Given.{Over}
use Rattle.write_passes.proofs.laying.lay_under.Goals as goal
use Rattle.write_passes.proofs.laying.lay_under.Goals.{After-columns, Else-is_literal, then-is_literal, else-is_literal}

pub loop-cover-init : goal.loop-cover-init
loop-cover-init over c = (omega arith, refl, λ j whole left b. record { now = whole; begins = b; bytes = refl; stars = omega arith; accepts = λ a. a })

-- the columns lie in the buffer
room : (over : Over) (c : After-columns over) → (cover_at c.args.covers.now c.loop-cover.cover-index).at + c.columns.result ≤ length c.loop-cover.buffer
room over c =
    let b = c.requires.begins in
    let r = (at c.args.sheet c.args.covers.now c.loop-cover-test.true (c.loop-cover.invariant.2 b.taken b.whole b.left b.begins)).is.room in
    omega (arith, r, c.requires.room, c.loop-cover.invariant.1, c.columns.ensures)

pub overflow_add-part : goal.overflow_add-part
overflow_add-part over c = let k = room over (goal.at.overflow_add-part over c).After-columns in search rules

pub slice_bounds-part-end : goal.slice_bounds-part-end
slice_bounds-part-end over c = let k = room over (goal.at.slice_bounds-part-end over c).After-columns in search rules

pub put_literal-requires : goal.put_literal-requires
put_literal-requires over c =
    let b = c.requires.begins in
    let a = literal_inside c.args.sheet c.args.covers.now c.loop-cover-test.true (c.loop-cover.invariant.2 b.taken b.whole b.left b.begins) (sym c.is_literal.ensures ∙ c.if-is_literal.true) in
    let k = room over (goal.at.put_literal-requires over c).After-columns in
    rw (length_lent c.loop-cover.buffer _ c.columns.result k, c.columns.ensures, c.detail.ensures) a

-- the next element's field is there
known : (over : Over) (c : Else-is_literal over) → c.loop-cover.taken < length c.args.sheet.list.elements.now
known over c =
    let b = c.requires.begins in
    in_list c.args.sheet (laying_field c.args.sheet c.args.covers.now c.loop-cover-test.true (c.loop-cover.invariant.2 b.taken b.whole b.left b.begins) (sym c.is_literal.ensures ∙ c.if-is_literal.false))

pub offset_bounds-sheet-taken : goal.offset_bounds-sheet-taken
offset_bounds-sheet-taken over c = let k = known over (goal.at.offset_bounds-sheet-taken over c).Else-is_literal in search rules

pub bounds-sheet-taken : goal.bounds-sheet-taken
bounds-sheet-taken over c = known over (goal.at.bounds-sheet-taken over c).Else-is_literal

pub put-stars-requires : goal.put-stars-requires
put-stars-requires over c =
    let b = c.requires.begins in
    let g = c.loop-cover.invariant.2 b.taken b.whole b.left b.begins in
    let e = sym c.is_literal.ensures ∙ c.if-is_literal.false in
    let i = at c.args.sheet c.args.covers.now c.loop-cover-test.true g in
    let f = laying_field c.args.sheet c.args.covers.now c.loop-cover-test.true g e in
    let k = room over (goal.at.put-stars-requires over c).After-columns in
    record {
      good = is_good c.args.sheet f;
      wide = rw (length_lent c.loop-cover.buffer _ c.columns.result k, c.columns.ensures, i.is.width) (some_columns c.args.sheet f);
      field = record { f = f.f; is = rw c.detail-else-is_literal.ensures (field_of c.args.sheet f); small = field_small c.args.sheet c.args.covers.now c.loop-cover-test.true g e b.accepts };
    }

pub overflow_add-taken : goal.overflow_add-taken
overflow_add-taken over c = let k = known over (goal.at.overflow_add-taken over c).Else-is_literal in search rules

pub loop-cover-preserved : goal.loop-cover-preserved
loop-cover-preserved over c =
    let i = c.loop-cover.invariant in
    let n = (cover_at c.args.covers.now c.loop-cover.cover-index).at in
    let k = room over (goal.at.loop-cover-preserved over c).After-columns in
    let l = length_lent c.loop-cover.buffer n c.columns.result k in
    elim c.if-is_literal.branch [
      | then-is_literal w ↦ (
        omega (arith, w.starred-is, i.0),
        c.if-is_literal.auto.buffer ∙ i.1,
        λ j whole left b.
            rw (w.taken-is, w.starred-is, w.buffer-is)
            (literal_laid c.args.sheet c.args.covers.now c.loop-cover-test.true (i.2 j whole left b) (sym c.is_literal.ensures ∙ w.if-is_literal.true)
            (splice_lent c.loop-cover.buffer n c.columns.result w.put_literal.new.part k w.put_literal.auto.part (rw (l, c.columns.ensures, w.detail.ensures) at w.put_literal.ensures))),
      )
      | else-is_literal w ↦ (
        omega (arith, w.starred-is, i.0, w.from-starred.ensures, (counted w.put-stars.result).1),
        c.if-is_literal.auto.buffer ∙ i.1,
        λ j whole left b.
            let g = i.2 j whole left b in
            let e = sym c.is_literal.ensures ∙ w.if-is_literal.false in
            let f = laying_field c.args.sheet c.args.covers.now c.loop-cover-test.true g e in
            let o : FieldOf (element_value c.args.sheet c.loop-cover.taken) w.detail-else-is_literal.result f.f = rw w.detail-else-is_literal.ensures (field_of c.args.sheet f) in
            rw (w.taken-is, w.buffer-is)
            (field_laid c.args.sheet c.args.covers.now c.loop-cover-test.true g e
            (splice_lent c.loop-cover.buffer n c.columns.result w.put-stars.new.part k w.put-stars.auto.part (rw (l, c.columns.ensures, w.known.ensures) at (w.put-stars.ensures.bytes f.f o)))
            (rw (l, c.columns.ensures, w.known.ensures) at (w.put-stars.ensures.stars f.f o))
            (w.starred-is ∙ ap (λ (m : ℕ). c.loop-cover.starred + m) (w.from-starred.ensures ∙ (counted w.put-stars.result).0))),
      )
    ]

pub returns-clause-stars : goal.returns-clause-stars
returns-clause-stars over c = λ j whole left b. laid_stars c.args.sheet c.args.covers.now (omega (arith, c.loop-cover-test.false)) (c.loop-cover.invariant.2 j whole left b)

pub returns-clause-bytes : goal.returns-clause-bytes
returns-clause-bytes over c = λ j whole left b. laid_bytes c.args.sheet c.args.covers.now (omega (arith, c.loop-cover-test.false)) (c.loop-cover.invariant.2 j whole left b)
