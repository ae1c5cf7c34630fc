use Rattle.std.proofs.Common.{◌≡◌, refl, sym, ap, ◌∙◌, ◌+◌, ◌-◌, ◌<◌, ◌≤◌, List, length, take, drop, get_or, arith, Bor}
use lib.ListN.{length-drop, length-set}
use lib.Seq.{get_or-drop}
use Rattle.std.proofs.lemmas.List.{take_rest}
use Rattle.sheet_walk.specs.declared.walk.Walk.{Walk}
use Rattle.std.proofs.lemmas.List.{get_or_default}
use Rattle.format_words.specs.Packing.{kind_in, columns_in}
use Rattle.sheet_walk.specs.Given.{kind_number}
use Rattle.format_words.specs.declared.packed.Packed.{Packed}
use Rattle.list_elements.specs.declared.Element.{Element}
use Rattle.list_elements.specs.Elements.{zero_value, value_of, kind_of}
use Rattle.sheet_walk.proofs.Starts.{words_from}
use Rattle.sheet_walk.proofs.FieldRuns.{no_field, one_more, runs_to}
use Rattle.sheet_walk.proofs.walk.Walk.fields.Goals as goal
use Rattle.sheet_walk.proofs.walk.Walk.fields.Goals.{After-min-most}

pub loop-count-init : goal.loop-count-init
loop-count-init c = (no_field c.args.self.now c.args.covers.now, refl, omega arith)

-- what is left of the run, and of the elements
words_are : (c : After-min-most) → c.unwrap_or-words.result.now ≡ drop c.args.self.now.index c.args.self.now.run.words.now
words_are c = ap (λ (b : Bor (List Packed)). b.now) c.unwrap_or-words.ensures ∙ words_from _ _ c.get.result c.get.ensures.lookup _ refl

abbrev part_of : Walk → List Element
part_of w = take (length w.elements.now - w.state.taken) (drop w.state.taken w.elements.now)

elements_are : (w : Walk) → part_of w ≡ drop w.state.taken w.elements.now
elements_are w = take_rest w.elements.now w.state.taken

pub loop-count-preserved : goal.loop-count-preserved
loop-count-preserved c =
    let m = (goal.at.loop-count-preserved c).After-min-most in
    let w = c.args.self.now in
    let i = c.loop-count.invariant in
    let zero : Element = record { value = zero_value } in
    let ws = words_are m in
    let es = elements_are w in
    let lw : length c.unwrap_or-words.result.now ≡ length w.run.words.now - w.index = ap length ws ∙ length-drop w.index w.run.words.now in
    let le : length (part_of w) ≡ length w.elements.now - w.state.taken = ap length es ∙ length-drop w.state.taken w.elements.now in
    let few : c.loop-count.count + 1 ≤ c.min-most.result = omega (arith, c.loop-count-test.true) in
    let iw : w.index + c.loop-count.count < length w.run.words.now = omega (arith, few, lw, c.min-most.ensures, c.min.ensures) in
    let ie : w.state.taken + c.loop-count.count < length w.elements.now = omega (arith, few, le, c.min-most.ensures, c.min.ensures) in
    let word : get_or w.run.words.now (w.index + c.loop-count.count) (record { bits = 0 }) ≡ get_or c.unwrap_or-words.result.now c.loop-count.count (record { bits = 0 }) = rw ws (sym (get_or-drop w.index w.run.words.now c.loop-count.count (record { bits = 0 }))) in
    let element : get_or (part_of w) c.loop-count.count zero ≡ get_or w.elements.now (w.state.taken + c.loop-count.count) zero = rw es (get_or-drop w.state.taken w.elements.now c.loop-count.count zero) in
    let x : Element = get_or w.elements.now (w.state.taken + c.loop-count.count) zero in
    let p : Packed = get_or c.unwrap_or-words.result.now c.loop-count.count (record { bits = 0 }) in
    let k : kind_in p ≡ kind_number (kind_of (value_of x)) = sym c.kind.ensures ∙ c.if-kind-suited_kind.false ∙ c.suited_kind.ensures ∙ ap (λ y. kind_number (kind_of (value_of y))) element in
    let fits : w.state.column + c.loop-count.columns + columns_in p ≤ w.records.width + 1 = omega (arith, c.if-room-columns.false, c.columns-width.ensures, i.0.room) in
    let run = one_more w i.0 (record { bits = 0 }) p x iw word ie (get_or_default w.elements.now (w.state.taken + c.loop-count.count) x zero ie) k fits (omega (arith, few, c.min-most.ensures, i.1)) in
    (rw c.columns-width.ensures run, length-set c.loop-count.covers c.loop-count.count _ ∙ i.1, few)

pub returns-clause-as_fields : goal.returns-clause-as_fields
returns-clause-as_fields c = runs_to c.args.self.now c.loop-count.invariant.0 _ (record { run = refl; elements = refl; records = refl }) refl refl
