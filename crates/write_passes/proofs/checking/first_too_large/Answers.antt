use Rattle.std.proofs.Common.{refl, sym, ◌∙◌, ◌<◌, length, arith, rules}
use Rattle.write_passes.proofs.CheckLaws.{in_list, is_good, field_of, looked_field, looked_large, looked_small, looked_literal, looked_all}
use Rattle.write_passes.proofs.checking.first_too_large.Goals as goal
use Rattle.write_passes.proofs.checking.first_too_large.Goals.{Then-not-is_literal, else-not-is_literal, then-not-is_literal+else-too_large}

pub loop-cover-init : goal.loop-cover-init
loop-cover-init c = λ j whole left b. record { now = whole; begins = b; same = refl }

-- the element of the field is there
known : (c : Then-not-is_literal) → c.loop-cover.taken < length c.args.sheet.list.elements.now
known c =
    let r = c.requires in
    in_list c.args.sheet (looked_field c.args.sheet c.args.covers.now c.loop-cover-test.true (c.loop-cover.invariant r.taken r.whole r.left r.begins) (sym c.is_literal.ensures ∙ c.if-not-is_literal.true))

pub offset_bounds-sheet-taken : goal.offset_bounds-sheet-taken
offset_bounds-sheet-taken c = let k = known (goal.at.offset_bounds-sheet-taken c).Then-not-is_literal in search rules

pub bounds-sheet-taken : goal.bounds-sheet-taken
bounds-sheet-taken c = known (goal.at.bounds-sheet-taken c).Then-not-is_literal

pub too_large-requires : goal.too_large-requires
too_large-requires c =
    let r = c.requires in
    let a = looked_field c.args.sheet c.args.covers.now c.loop-cover-test.true (c.loop-cover.invariant r.taken r.whole r.left r.begins) (sym c.is_literal.ensures ∙ c.if-not-is_literal.true) in
    record { good = (c.args.sheet.list.area.now, is_good c.args.sheet a); field = record { f = a.f; is = rw c.detail.ensures (field_of c.args.sheet a) } }

pub returns-then-too_large : goal.returns-then-too_large
returns-then-too_large c = λ j whole left b.
    let g = c.loop-cover.invariant j whole left b in
    let e = sym c.is_literal.ensures ∙ c.if-not-is_literal.true in
    let a = looked_field c.args.sheet c.args.covers.now c.loop-cover-test.true g e in
    looked_large c.args.sheet c.args.covers.now c.loop-cover-test.true g e (sym (c.too_large.ensures a.f (rw c.detail.ensures (field_of c.args.sheet a))) ∙ c.if-too_large.true)

pub overflow_add-taken : goal.overflow_add-taken
overflow_add-taken c = let k = known (goal.at.overflow_add-taken c).Then-not-is_literal in search rules

pub loop-cover-preserved : goal.loop-cover-preserved
loop-cover-preserved c = λ j whole left b.
    let g = c.loop-cover.invariant j whole left b in
    elim c.if-not-is_literal.branch [
      | else-not-is_literal w ↦ rw w.taken-is (looked_literal c.args.sheet c.args.covers.now c.loop-cover-test.true g (sym c.is_literal.ensures ∙ w.if-not-is_literal.false))
      | then-not-is_literal+else-too_large w ↦
          let e = sym c.is_literal.ensures ∙ w.if-not-is_literal.true in
          let a = looked_field c.args.sheet c.args.covers.now c.loop-cover-test.true g e in
          rw w.taken-is (looked_small c.args.sheet c.args.covers.now c.loop-cover-test.true g e (sym (w.too_large.ensures a.f (rw w.detail.ensures (field_of c.args.sheet a))) ∙ w.if-too_large.false))
    ]

pub returns : goal.returns
returns c = λ j whole left b. looked_all c.args.sheet c.args.covers.now (omega (arith, c.loop-cover-test.false)) (c.loop-cover.invariant j whole left b)
