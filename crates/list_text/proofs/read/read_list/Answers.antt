use native.Mathlib.Omega.{arith}
use mathlib.Core.Path.{◌≡◌, sym, ap, ◌∙◌}
use mathlib.Core.Bool.{true, false}
use Rattle.list_elements.specs.Limits.{within_limits}
use Rattle.list_text.specs.ElementLines.{element_on}
use Rattle.list_text.proofs.CutLines.{read_within, cut_good, cut_bad}
use Rattle.list_text.proofs.Longest.{wrong_outside}
use Rattle.list_text.proofs.ReadLaws.{reading_none, reading_over, reading_bad, reading_more, reading_good, reading_list, answered_bad, answered_good}
use Rattle.list_text.proofs.read.read_list.Goals as goal

pub loop-at-init : goal.loop-at-init
loop-at-init c = rw c.empty-list.ensures (reading_none _)

pub returns-then-place-eq-MOST : goal.returns-then-place-eq-MOST
returns-then-place-eq-MOST c =
    let clauses = answered_bad c.args.text.now (reading_over c.loop-at.invariant c.loop-at-test.true c.if-place-eq-MOST.true) in
    record { read = clauses.read; list = clauses.list; number = clauses.number; place = clauses.place }

pub element_on-requires : goal.element_on-requires
element_on-requires c = omega (arith, read_within c.args.text.now c.loop-at.at c.line_from-line.ensures (omega arith))

pub returns-in_default : goal.returns-in_default
returns-in_default c =
    let out : within_limits c.args.text.now (element_on c.loop-at.at c.line_from-line.result.now) ≡ false =
    ap (within_limits c.args.text.now) (sym c.in-Some.ensures) ∙ sym c.is_within_limits.ensures ∙ c.if-is_within_limits.false in
    let clauses = answered_bad c.args.text.now (reading_bad c.loop-at.invariant c.loop-at-test.true c.if-place-eq-MOST.false (cut_bad c.args.text.now c.loop-at.at c.line_from-line.ensures out)) in
    record { read = clauses.read; list = clauses.list; number = clauses.number; place = clauses.place }

pub returns-in_default-2 : goal.returns-in_default-2
returns-in_default-2 c =
    let out : within_limits c.args.text.now (element_on c.loop-at.at c.line_from-line.result.now) ≡ false =
    ap (within_limits c.args.text.now) (sym c.in_default.ensures) ∙ wrong_outside c.args.text.now in
    let clauses = answered_bad c.args.text.now (reading_bad c.loop-at.invariant c.loop-at-test.true c.if-place-eq-MOST.false (cut_bad c.args.text.now c.loop-at.at c.line_from-line.ensures out)) in
    record { read = clauses.read; list = clauses.list; number = clauses.number; place = clauses.place }

pub loop-at-preserved : goal.loop-at-preserved
loop-at-preserved c =
    let good : within_limits c.args.text.now c.in-Some.value ≡ true = sym c.is_within_limits.ensures ∙ c.if-is_within_limits.true in
    let in_limits : within_limits c.args.text.now (element_on c.loop-at.at c.line_from-line.result.now) ≡ true = ap (within_limits c.args.text.now) (sym c.in-Some.ensures) ∙ good in
    reading_more c.loop-at.invariant c.loop-at-test.true (cut_good c.args.text.now c.loop-at.at c.line_from-line.ensures in_limits) c.in-Some.ensures c.if-place-eq-MOST.false good

pub returns : goal.returns
returns c =
    let clauses = answered_good c.args.text.now (reading_good c.loop-at.invariant c.loop-at-test.false) (reading_list c.loop-at.invariant c.loop-at-test.false) in
    record { read = clauses.read; list = clauses.list; number = clauses.number; place = clauses.place }
