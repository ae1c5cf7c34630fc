-- What is found under a field, by the wanted kind and the places, is what the field gives.
-- Assumes nothing.
use Rattle.std.proofs.Common.{◌≡◌, refl, ap, subst, ◌∙◌, Bool, true, false, List, ℕ, ◌+◌, ◌≤◌, length, take, drop}
use Rattle.std.specs.Prelude.{Option, Some, None}
use Rattle.buffer.specs.Characters.{all_printable}
use Rattle.buffer.proofs.Splicing.{length_part}
use Rattle.field_written.specs.Numeral.{Numeric}
use Rattle.field_read.specs.Read.{read_field}
use Rattle.field_read.specs.LogicalRead.{logical_read}
use Rattle.field_read.specs.declared.Number.{Number}
use Rattle.field_read.proofs.Promises.{text_read_length}
use Rattle.format_items.specs.Items.{Field}
use Rattle.list_elements.specs.declared.Value.{Value}
use Rattle.list_elements.specs.Elements.{Kind, integer, decimal, logical, text, text_length, text_bytes}
use Rattle.sheet_walk.specs.Given.{PlacesAre}
use Rattle.read_passes.specs.Given.{Given, gives, nothing, integer_given, decimal_given, logical_given, text_given, field_gives}
use Rattle.read_passes.specs.Passes.{integer_found, decimal_found, logical_found, text_found, found_in, FoundAs}
use Rattle.read_passes.proofs.GivenLaws.{is_integer_lem, is_decimal_lem, is_logical_lem, is_text_lem}
use Rattle.sheet_walk.specs.Steps.{widest_record, suits, is_text}

-- what a field gives, as the code answers it
abbrev pub GivenAs : List ℕ → Kind → Given → Option Value → Type 0
GivenAs records k (gives c) r = (v : Value) × (r ≡ Some v) × FoundAs records k v c
GivenAs records k nothing r = r ≡ None

module _ (records : List ℕ) where
  found_integer : (k : Kind) → integer ≡ k → (read : Option Number) → GivenAs records k (integer_given read) (integer_found read)
  found_integer k e (Some n) = (_, refl, record { is = refl; of_kind = e; inside = tt; narrow = tt })
  found_integer k e None = refl

  found_decimal : (k : Kind) → decimal ≡ k → (read : Option Number) → GivenAs records k (decimal_given read) (decimal_found read)
  found_decimal k e (Some n) = (_, refl, record { is = refl; of_kind = e; inside = tt; narrow = tt })
  found_decimal k e None = refl

  found_logical : (k : Kind) → logical ≡ k → (read : Option Bool) → GivenAs records k (logical_given read) (logical_found read)
  found_logical k e (Some b) = (_, refl, record { is = refl; of_kind = e; inside = tt; narrow = tt })
  found_logical k e None = refl

  found_text : (k : Kind) (at w : ℕ) → text (text_length k) ≡ k → at + w ≤ length records → w ≤ widest_record
      → GivenAs records k (text_given (text_length k) (take w (drop at records))) (text_found (take w (drop at records)) at)
  unfolding text_bytes
  found_text k at w e room few = go (all_printable part) refl
    where
      part : List ℕ
      part = take w (drop at records)

      long : length part ≡ w
      long = length_part records at w room

      go : (b : Bool) → all_printable part ≡ b → GivenAs records k (text_given (text_length k) part) (text_found part at)
      go true g = rw g (_, refl, record { is = rw long refl; of_kind = ap text (text_read_length (text_length k) part) ∙ e; inside = rw long room; narrow = rw long few })
      go false g = rw g refl

module _ (records : List ℕ) (at w : ℕ) (room : at + w ≤ length records) (few : w ≤ widest_record) where
  found_text_lem : (k : Kind) (d : ℕ) → is_text k ≡ true → GivenAs records k (text_given (text_length k) (take w (drop at records))) (found_in k d (take w (drop at records)) at)
  found_text_lem k d s =
      subst (λ z. GivenAs records k (text_given (text_length k) (take w (drop at records))) (found_in z d (take w (drop at records)) at)) (is_text_lem k s)
      (found_text records k at w (is_text_lem k s) room few)

  -- under a field that the kind suits
  pub found_as : (k : Kind) (d : ℕ) (f : Field ℕ) → suits f k ≡ true → PlacesAre d f → GivenAs records k (field_gives f k (take w (drop at records))) (found_in k d (take w (drop at records)) at)
  unfolding field_gives
  found_as k d (Field.I n) s p =
      subst (λ z. GivenAs records k (integer_given (read_field Numeric.I (take w (drop at records)))) (found_in z d (take w (drop at records)) at)) (is_integer_lem k s)
      (found_integer records k (is_integer_lem k s) (read_field Numeric.I (take w (drop at records))))
  found_as k d (Field.F n e) s p =
      subst (λ z. GivenAs records k (decimal_given (read_field (Numeric.F e) (take w (drop at records)))) (found_in z d (take w (drop at records)) at)) (is_decimal_lem k s)
      (rw p (found_decimal records k (is_decimal_lem k s) (read_field (Numeric.F e) (take w (drop at records)))))
  found_as k d (Field.L n) s p =
      subst (λ z. GivenAs records k (logical_given (logical_read (take w (drop at records)))) (found_in z d (take w (drop at records)) at)) (is_logical_lem k s)
      (found_logical records k (is_logical_lem k s) (logical_read (take w (drop at records))))
  found_as k d Field.A s p = found_text_lem k d s
  found_as k d (Field.Aw n) s p = found_text_lem k d s
