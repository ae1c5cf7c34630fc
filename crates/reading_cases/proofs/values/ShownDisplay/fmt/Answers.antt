use Rattle.std.proofs.Common.{rules, ◌≡◌, ◌∷◌, [], append_assoc, w64}
use Rattle.std.specs.Prelude.{decimal}
use Rattle.std.specs.Fmt.{signed_decimal}
use mir.Val.{to_z, of_z}
use Rattle.reading_cases.proofs.values.ShownDisplay.fmt.Goals as goal

-- (The check finds this alone. It stands here so that the wrong version `places_before_units` is refused by a fact.)
pub returns-in-Decimal-clause-writes : goal.returns-in-Decimal-clause-writes
returns-in-Decimal-clause-writes g c = λ p o.
    let d = c.in-Decimal.field-0 in
    let z : to_z w64 (of_z w64 d.units) ≡ d.units = search rules in
    rw (c.in-Decimal.is, append_assoc (signed_decimal d.units) (32 ∷ []) (decimal d.places)) (rw (c.in-Decimal.is, z) at (c.write-in-Decimal.ensures.writes p o))
