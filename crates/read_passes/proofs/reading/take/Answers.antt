use Rattle.std.proofs.Common.{◌≡◌, refl, sym, ◌∙◌, ◌+◌, ◌-◌, ◌<◌, ◌≤◌, length, arith, rules}
use Rattle.sheet_walk.proofs.OneByOne.{cover_at}
use Rattle.read_passes.proofs.PassLaws.{inside, literal_passed, known, not_found, field_found, all_taken}
use Rattle.read_passes.proofs.reading.take.Goals as goal
use Rattle.read_passes.proofs.reading.take.Goals.{Then-not-is_literal, After-columns, else-not-is_literal, then-not-is_literal+in-Some}

pub loop-cover-init : goal.loop-cover-init
loop-cover-init c = (refl, λ j whole left b. record { now = whole; begins = b; on = λ start h. h })

-- the columns lie in the bytes
room : (c : After-columns) → (cover_at c.args.covers.now c.loop-cover.cover-index).at + c.columns.result ≤ length c.args.sheet.bytes.now
room c =
    let b = c.requires.begins in
    omega (arith, c.columns.ensures, inside c.args.sheet c.args.covers.now c.loop-cover-test.true (c.loop-cover.invariant.1 b.taken b.whole b.left b.begins))

-- the next element is there
is_known : (c : Then-not-is_literal) → c.loop-cover.taken < length c.args.sheet.wanted.now
is_known c =
    let b = c.requires.begins in
    known c.args.sheet c.args.covers.now c.loop-cover-test.true (c.loop-cover.invariant.1 b.taken b.whole b.left b.begins) (sym c.is_literal.ensures ∙ c.if-not-is_literal.true)

pub overflow_add-part : goal.overflow_add-part
overflow_add-part c = let k = room (goal.at.overflow_add-part c).After-columns in search rules

pub slice_bounds-part-end : goal.slice_bounds-part-end
slice_bounds-part-end c = let k = room (goal.at.slice_bounds-part-end c).After-columns in search rules

pub offset_bounds-sheet-taken : goal.offset_bounds-sheet-taken
offset_bounds-sheet-taken c = let k = is_known (goal.at.offset_bounds-sheet-taken c).Then-not-is_literal in search rules

pub bounds-sheet-taken : goal.bounds-sheet-taken
bounds-sheet-taken c = is_known (goal.at.bounds-sheet-taken c).Then-not-is_literal

pub returns-in_default : goal.returns-in_default
returns-in_default c = λ start j whole left b h.
    let n = (cover_at c.args.covers.now c.loop-cover.cover-index).at in
    let k : n + c.columns.result - n ≡ c.columns.result = omega arith in
    not_found c.args.sheet c.args.covers.now c.loop-cover-test.true (c.loop-cover.invariant.1 j whole left b) (sym c.is_literal.ensures ∙ c.if-not-is_literal.true)
    (sym (rw (k, c.columns.ensures, c.detail.ensures) at c.find.ensures) ∙ c.in_default.is) start h

pub offset_bounds-found-taken : goal.offset_bounds-found-taken
offset_bounds-found-taken c = let k = is_known (goal.at.offset_bounds-found-taken c).Then-not-is_literal in search rules

pub bounds-found-taken : goal.bounds-found-taken
bounds-found-taken c = omega (arith, is_known (goal.at.bounds-found-taken c).Then-not-is_literal, c.requires.long, c.loop-cover.invariant.0)

pub overflow_add-taken : goal.overflow_add-taken
overflow_add-taken c = let k = is_known (goal.at.overflow_add-taken c).Then-not-is_literal in search rules

pub loop-cover-preserved : goal.loop-cover-preserved
loop-cover-preserved c =
    let i = c.loop-cover.invariant in
    let n = (cover_at c.args.covers.now c.loop-cover.cover-index).at in (
      c.if-not-is_literal.auto.found ∙ i.0,
      elim c.if-not-is_literal.branch [
        | else-not-is_literal w ↦ λ j whole left b.
            rw (w.taken-is, w.found-is) (literal_passed c.args.sheet c.args.covers.now c.loop-cover-test.true (i.1 j whole left b) (sym c.is_literal.ensures ∙ w.if-not-is_literal.false))
        | then-not-is_literal+in-Some w ↦ λ j whole left b.
            let k : n + w.columns.result - n ≡ w.columns.result = omega arith in
            rw (w.taken-is, w.found-is)
            (field_found c.args.sheet c.args.covers.now c.loop-cover-test.true (i.1 j whole left b) (sym c.is_literal.ensures ∙ w.if-not-is_literal.true) w.in-Some.value
            (sym (rw (k, w.columns.ensures, w.detail.ensures) at w.find.ensures) ∙ w.in-Some.is) (omega (arith, c.requires.long, i.0)))
      ],
    )

pub returns : goal.returns
returns c = λ start j whole left b h. all_taken c.args.sheet c.args.covers.now (omega (arith, c.loop-cover-test.false)) (c.loop-cover.invariant.1 j whole left b) start h
