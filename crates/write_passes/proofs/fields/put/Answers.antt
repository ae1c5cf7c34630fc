use Rattle.std.proofs.Common.{◌≡◌, refl, sym, ◌∙◌, false, length, arith}
use Rattle.std.specs.Prelude.{Ok}
use Rattle.std.proofs.lemmas.List.{take_rest}
use borrow.Author.Rules.{rules}
use Rattle.number.specs.Rounding.{rounded_units, too_large}
use Rattle.field_written.specs.Numeral.{Numeric}
use Rattle.field_written.specs.Written.{starred}
use Rattle.list_elements.proofs.WithinLaws.{within_integer, within_decimal, within_text}
use Rattle.list_elements.specs.Elements.{text_bytes}
use Rattle.write_passes.proofs.PutLaws.{integer_puts, decimal_puts, logical_puts, text_puts, few_places, as_bits, decimal_answer, decimal_bytes}
use Rattle.write_passes.proofs.fields.put.Goals as goal

pub write_integer-requires : goal.write_integer-requires
write_integer-requires c =
    let n = c.in-Integer in
    let h = within_integer c.args.area.now n.n (rw n.is at c.requires.good) in
    rw (as_bits n.n h) h

pub write_decimal-requires : goal.write_decimal-requires
write_decimal-requires c =
    let x = c.in-Decimal in
    let h = within_decimal c.args.area.now x.d (rw x.is at c.requires.good) in
    record {
      wanted = few_places c.requires.field.f (rw x.is at c.requires.field.is);
      magnitude = rw (as_bits x.d.units h.0) h.0;
      given = h.1;
    }

pub unwrap-requires : goal.unwrap-requires
unwrap-requires c =
    let x = c.in-Decimal in
    let g = c.requires.field in
    let h = within_decimal c.args.area.now x.d (rw x.is at c.requires.good) in
    let p = decimal_puts c.args.area.now c.args.settings (length c.args.part.now) x.d g.f (rw x.is at g.is) in
    rw (c.write_decimal.ensures.answer, as_bits x.d.units h.0, decimal_answer c.args.settings.signs _ c.args.places x.d.units x.d.places (sym p.is_large ∙ (rw x.is at g.small))) refl

pub slice_bounds-write_text-count : goal.slice_bounds-write_text-count
slice_bounds-write_text-count c = let h = (within_text c.args.area.now c.in-Text.t (rw c.in-Text.is at c.requires.good)).inside in omega arith

pub slice_bounds-write_text-start : goal.slice_bounds-write_text-start
slice_bounds-write_text-start c = let h = (within_text c.args.area.now c.in-Text.t (rw c.in-Text.is at c.requires.good)).inside in search rules

pub slice_bounds-write_text-end-in-Text : goal.slice_bounds-write_text-end-in-Text
slice_bounds-write_text-end-in-Text c = let h = (within_text c.args.area.now c.in-Text.t (rw c.in-Text.is at c.requires.good)).inside in search rules

pub returns-in-Integer : goal.returns-in-Integer
returns-in-Integer c =
    let n = c.in-Integer in
    let h = within_integer c.args.area.now n.n (rw n.is at c.requires.good) in
    record {
      stars = λ f o. rw n.is ((rw (as_bits n.n h) at c.write_integer.ensures.answer) ∙ sym (integer_puts c.args.area.now c.args.settings (length c.args.part.now) n.n f (rw n.is at o)).is_starred);
      bytes = λ f o. rw n.is ((rw (as_bits n.n h) at c.write_integer.ensures.laid) ∙ sym (integer_puts c.args.area.now c.args.settings (length c.args.part.now) n.n f (rw n.is at o)).are);
    }

pub returns-in-Decimal : goal.returns-in-Decimal
returns-in-Decimal c =
    let x = c.in-Decimal in
    let w = length c.args.part.now in
    let h = within_decimal c.args.area.now x.d (rw x.is at c.requires.good) in
    let g = c.requires.field in
    let small : too_large x.d.units x.d.places c.args.places ≡ false = sym (decimal_puts c.args.area.now c.args.settings w x.d g.f (rw x.is at g.is)).is_large ∙ (rw x.is at g.small) in
    let r : Ok c.unwrap.result ≡ Ok (starred c.args.settings.signs (Numeric.F c.args.places) w (rounded_units x.d.units x.d.places c.args.places)) =
    sym c.unwrap.ensures ∙ (rw (as_bits x.d.units h.0) at c.write_decimal.ensures.answer) ∙ decimal_answer c.args.settings.signs w c.args.places x.d.units x.d.places small in
    let z : c.unwrap.result ≡ starred c.args.settings.signs (Numeric.F c.args.places) w (rounded_units x.d.units x.d.places c.args.places) = cc in
    record {
      stars = λ f o. rw x.is (z ∙ sym (decimal_puts c.args.area.now c.args.settings w x.d f (rw x.is at o)).is_starred);
      bytes = λ f o.
          rw x.is
          ((rw (as_bits x.d.units h.0) at c.write_decimal.ensures.laid)
          ∙ decimal_bytes c.args.settings.signs w c.args.places x.d.units x.d.places small c.args.part.now refl
          ∙ sym (decimal_puts c.args.area.now c.args.settings w x.d f (rw x.is at o)).are);
    }

pub returns-in-Logical : goal.returns-in-Logical
returns-in-Logical c =
    let b = c.in-Logical in
    record {
      stars = λ f o. rw b.is (sym (logical_puts c.args.area.now c.args.settings (length c.args.part.now) b.b f (rw b.is at o)).is_starred);
      bytes = λ f o. rw b.is (c.write_logical.ensures ∙ sym (logical_puts c.args.area.now c.args.settings (length c.args.part.now) b.b f (rw b.is at o)).are);
    }

pub returns-in-Text : goal.returns-in-Text
unfolding text_bytes
returns-in-Text c =
    let t = c.in-Text in
    record {
      stars = λ f o. rw t.is (sym (text_puts c.args.area.now c.args.settings (length c.args.part.now) t.t f (rw t.is at o)).is_starred);
      bytes = λ f o. rw t.is (c.write_text.ensures ∙ rw (take_rest c.args.area.now t.t.start) (sym (text_puts c.args.area.now c.args.settings (length c.args.part.now) t.t f (rw t.is at o)).are));
    }
