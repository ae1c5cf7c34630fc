use Rattle.std.proofs.Common.{rules, ◌≡◌, refl, sym, ap, ◌∙◌, ◌+◌, ◌≤◌, length, List, ℕ, arith}
use lib.ListN.{get_or}
use Rattle.list_elements.specs.declared.Element.{Element}
use Rattle.buffer.specs.Splice.{splice}
use Rattle.list_elements.specs.Elements.{value_of}
use Rattle.list_elements.specs.Contents.{bytes_of, value_from}
use Rattle.list_elements.specs.declared.List as carried
use Rattle.read_passes.specs.Passes.{content_found}
use Rattle.read_passes.proofs.GiveLaws.{zero_element, next_is, giving_none, next_room, giving_more, giving_list, giving_texts}
use Rattle.read_passes.proofs.giving.give.Goals as goal

abbrev as_list : List Element → ℕ → carried.List
as_list es n = record { elements = es; count = n }

pub loop-i-init : goal.loop-i-init
loop-i-init c = rw c.requires.empty ((λ cs h. giving_none), refl)

pub give_value-value-requires-clause-room : goal.give_value-value-requires-clause-room
give_value-value-requires-clause-room c =
    let v = c.loop-i.invariant in
    omega (arith, next_room c.requires.found.held (v.0 c.requires.found.cs c.requires.found.held) c.loop-i-test.true, v.1, c.text_len-len.ensures)

pub overflow_add-at : goal.overflow_add-at
overflow_add-at c =
    let v = c.loop-i.invariant in
    let h : c.loop-i.at + c.text_len-len.result ≤ length c.args.area.now = omega (arith, next_room c.requires.found.held (v.0 c.requires.found.cs c.requires.found.held) c.loop-i-test.true, c.text_len-len.ensures) in
    search rules

pub loop-i-preserved : goal.loop-i-preserved
loop-i-preserved c =
    let v = c.loop-i.invariant in
    let g = c.give_value-value in (
      (λ cs h.
          let k = ap (λ m. content_found c.args.records.now m (value_of (get_or c.args.found.now c.loop-i.i zero_element))) c.text_len-len.ensures ∙ next_is h c.loop-i-test.true in
          giving_more h (v.0 cs h) c.loop-i-test.true (g.ensures.value ∙ ap (value_from c.loop-i.at) k) (g.ensures.bytes ∙ ap (λ d. splice c.loop-i.area c.loop-i.at (bytes_of d)) k) c.text_len-len.ensures),
      g.auto.area ∙ v.1,
    )

pub returns-clause-list : goal.returns-clause-list
returns-clause-list c = λ cs h.
    let e : c.loop-i.i ≡ length c.args.wanted.now = omega (arith, c.loop-i-test.false, c.loop-i.auto.i-end) in
    ap (as_list c.loop-i.list.elements) (sym e) ∙ giving_list h (c.loop-i.invariant.0 cs h) c.loop-i-test.false

pub returns-clause-texts : goal.returns-clause-texts
returns-clause-texts c = λ cs h. giving_texts h (c.loop-i.invariant.0 cs h) c.loop-i-test.false
