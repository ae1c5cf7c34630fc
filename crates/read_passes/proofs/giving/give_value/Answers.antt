use Rattle.std.proofs.Common.{refl, sym, ap, ◌∙◌, ℕ}
use Rattle.std.proofs.lemmas.List.{take_rest}
use Rattle.buffer.proofs.Splicing.{splice_nothing, splice_lent, length_lent}
use Rattle.field_read.proofs.Promises.{text_read_length}
use Rattle.list_elements.specs.Elements.{text_bytes}
use Rattle.list_elements.specs.declared.Value.TheVariants as value
use Rattle.read_passes.proofs.GiveLaws.{other_value}
use Rattle.read_passes.proofs.giving.give_value.Goals as goal

pub returns-in_default : goal.returns-in_default
returns-in_default c =
    let o = other_value c.args.records.now c.args.at c.args.len c.args.value c.in_default.not-Text in
    record { value = o.0; bytes = rw o.1 (sym (splice_nothing c.args.area.now c.args.at)) }

pub returns-clause-value : goal.returns-clause-value
returns-clause-value c = rw c.in-Text.is (ap (λ (z : ℕ). value.Text (record { start = c.args.at; len = z })) (sym (text_read_length c.args.len (text_bytes c.args.records.now c.in-Text.field))))

pub returns-clause-bytes : goal.returns-clause-bytes
unfolding text_bytes
returns-clause-bytes c =
    let l = length_lent c.args.area.now c.args.at c.args.len c.requires.room in
    rw c.in-Text.is (splice_lent c.args.area.now c.args.at c.args.len c.read_text.new.text c.requires.room c.read_text.auto.text
    ((rw l at c.read_text.ensures) ∙ rw (take_rest c.args.records.now c.in-Text.field.start) refl))
