-- What a field of the value's kind puts, whichever field it is.
-- Assumes nothing.
use Rattle.std.proofs.Common.{◌≡◌, refl, Bool, false, List, [], ℕ, ◌≤◌, length, arith, ℤ, pos, negsuc, nat_abs}
use Rattle.std.specs.Prelude.{Ok}
use mir.Val.{to_z, of_z}
use mir.Syntax.{w64}
use Rattle.buffer.proofs.Tests.{no_way}
use Rattle.number.specs.Limits.{largest, most_places}
use Rattle.number.specs.Rounding.{rounded_units, too_large}
use Rattle.settings.specs.Settings.{start_settings}
use Rattle.settings.specs.declared.SignSetting.{SignSetting}
use Rattle.settings.specs.declared.Settings.{Settings}
use Rattle.field_written.specs.Numeral.{Numeric}
use Rattle.field_written.specs.Written.{field, starred, decimal_field, put_decimal, decimal_part}
use Rattle.field_written.specs.LogicalField.{logical_field}
use Rattle.field_written.specs.TextField.{text_field}
use Rattle.format_items.specs.Items.{Field}
use Rattle.list_elements.specs.Elements.{text_bytes}
use Rattle.list_elements.proofs.LimitLaws.{from_bits}
use Rattle.list_elements.specs.declared.Decimal.{Decimal}
use Rattle.list_elements.specs.declared.Text.{Text}
use Rattle.list_elements.specs.declared.Value.{Value}
use Rattle.list_elements.specs.declared.Value.TheVariants as value
use Rattle.write_passes.specs.Placed.{field_characters, field_starred, field_too_large}
use Rattle.write_passes.specs.Passes.{FieldOf}

-- what a field w columns wide puts of v: whether it is too large, whether it is starred, and its characters
pub record Puts (area : List ℕ) (g : Settings) (f : Field ℕ) (w : ℕ) (v : Value) (large stars : Bool) (characters : List ℕ) : Type 0 where
  pub is_large : field_too_large f v ≡ large
  pub is_starred : field_starred g f w v ≡ stars
  pub are : field_characters area g f w v ≡ characters

module _ (area : List ℕ) (g : Settings) (w : ℕ) {d : ℕ} where
  pub integer_puts : (n : ℤ) (f : Field ℕ) → FieldOf (value.Integer n) d f → Puts area g f w (value.Integer n) false (starred g.signs Numeric.I w n) (field g.signs Numeric.I w n)
  unfolding field_characters field_starred field_too_large
  integer_puts n (Field.I u) o = record { is_large = refl; is_starred = refl; are = refl }
  integer_puts n (Field.F u e) o = no_way o.suited
  integer_puts n (Field.L u) o = no_way o.suited
  integer_puts n Field.A o = no_way o.suited
  integer_puts n (Field.Aw u) o = no_way o.suited

  pub decimal_puts : (x : Decimal) (f : Field ℕ) → FieldOf (value.Decimal x) d f
      → Puts area g f w (value.Decimal x) (too_large x.units x.places d) (starred g.signs (Numeric.F d) w (rounded_units x.units x.places d)) (decimal_field g.signs w d x.units x.places)
  unfolding field_characters field_starred field_too_large
  decimal_puts x (Field.I u) o = no_way o.suited
  decimal_puts x (Field.F u e) o = rw o.places (record { is_large = refl; is_starred = refl; are = refl })
  decimal_puts x (Field.L u) o = no_way o.suited
  decimal_puts x Field.A o = no_way o.suited
  decimal_puts x (Field.Aw u) o = no_way o.suited

  pub logical_puts : (b : Bool) (f : Field ℕ) → FieldOf (value.Logical b) d f → Puts area g f w (value.Logical b) false false (logical_field w b)
  unfolding field_characters field_starred field_too_large
  logical_puts b (Field.I u) o = no_way o.suited
  logical_puts b (Field.F u e) o = no_way o.suited
  logical_puts b (Field.L u) o = record { is_large = refl; is_starred = refl; are = refl }
  logical_puts b Field.A o = no_way o.suited
  logical_puts b (Field.Aw u) o = no_way o.suited

  pub text_puts : (t : Text) (f : Field ℕ) → FieldOf (value.Text t) d f → Puts area g f w (value.Text t) false false (text_field w (text_bytes area t))
  unfolding field_characters field_starred field_too_large
  text_puts t (Field.I u) o = no_way o.suited
  text_puts t (Field.F u e) o = no_way o.suited
  text_puts t (Field.L u) o = no_way o.suited
  text_puts t Field.A o = record { is_large = refl; is_starred = refl; are = refl }
  text_puts t (Field.Aw u) o = record { is_large = refl; is_starred = refl; are = refl }

-- only a decimal can be too large
pub other_large : {d : ℕ} (v : Value) (f : Field ℕ) → ((x : Decimal) → v ≡ value.Decimal x → ⊥) → FieldOf v d f → field_too_large f v ≡ false
other_large (value.Integer n) f u o = (integer_puts [] start_settings 0 n f o).is_large
other_large (value.Decimal x) f u o = absurd (u x refl)
other_large (value.Logical b) f u o = (logical_puts [] start_settings 0 b f o).is_large
other_large (value.Text t) f u o = (text_puts [] start_settings 0 t f o).is_large

-- the places of a decimal's field are few
pub few_places : {x : Decimal} {d : ℕ} (f : Field ℕ) → FieldOf (value.Decimal x) d f → d ≤ most_places
few_places (Field.I u) o = no_way o.suited
few_places (Field.F u e) o = rw o.places o.within.1.1
few_places (Field.L u) o = no_way o.suited
few_places Field.A o = no_way o.suited
few_places (Field.Aw u) o = no_way o.suited

-- ---- signed numbers reach a callee as bits

pub as_bits : (z : ℤ) → nat_abs z ≤ largest → to_z w64 (of_z w64 z) ≡ z
as_bits (pos n) h = from_bits (pos n) (omega arith)
as_bits (negsuc n) h = from_bits (negsuc n) (omega arith)

-- ---- the answer of writing a decimal that is not too large

module _ (g : SignSetting) (w d : ℕ) (u : ℤ) (s : ℕ) (small : too_large u s d ≡ false) where
  pub decimal_answer : put_decimal g w d u s ≡ Ok (starred g (Numeric.F d) w (rounded_units u s d))
  unfolding put_decimal
  decimal_answer = rw small

  pub decimal_bytes : (part : List ℕ) → length part ≡ w → decimal_part g part d u s ≡ decimal_field g w d u s
  unfolding decimal_part
  decimal_bytes part l = rw (small, l)
