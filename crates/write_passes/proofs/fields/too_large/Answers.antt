use Rattle.std.proofs.Common.{sym, ◌∙◌}
use Rattle.settings.specs.Settings.{start_settings}
use Rattle.list_elements.proofs.WithinLaws.{within_decimal}
use Rattle.write_passes.proofs.PutLaws.{decimal_puts, other_large, few_places, as_bits}
use Rattle.write_passes.proofs.fields.too_large.Goals as goal

pub returns-in_default : goal.returns-in_default
returns-in_default c = λ f o. sym (other_large c.args.value f c.in_default.not-Decimal o)

pub too_large-requires : goal.too_large-requires
too_large-requires c =
    let x = c.in-Decimal in
    let h = within_decimal c.requires.good.0 x.d (rw x.is at c.requires.good.1) in
    (rw (as_bits x.d.units h.0) h.0, h.1, few_places c.requires.field.f (rw x.is at c.requires.field.is))

pub returns : goal.returns
returns c = λ f o.
    let x = c.in-Decimal in
    let h = within_decimal c.requires.good.0 x.d (rw x.is at c.requires.good.1) in
    rw x.is ((rw (as_bits x.d.units h.0) at c.too_large.ensures) ∙ sym (decimal_puts c.requires.good.0 start_settings 0 x.d f (rw x.is at o)).is_large)
