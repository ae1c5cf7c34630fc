-- What a value within its limits says of its data.
-- Assumes nothing.
use Rattle.std.proofs.Common.{◌≡◌, true, List, ℕ, ◌+◌, ◌≤◌, length, ℤ, nat_abs}
use Rattle.std.specs.Prelude.{◌&&◌, leb}
use borrow.Author.Tests.{leb-true}
use Rattle.buffer.specs.Characters.{all_printable}
use Rattle.buffer.proofs.Splicing.{length_part}
use Rattle.number.specs.Limits.{largest, most_places}
use Rattle.list_elements.specs.Elements.{text_bytes}
use Rattle.list_elements.specs.Limits.{longest_text, within_limits}
use Rattle.list_elements.specs.declared.Decimal.{Decimal}
use Rattle.list_elements.specs.declared.Text.{Text}
use Rattle.list_elements.specs.declared.Value.TheVariants as value
use Rattle.std.proofs.lemmas.Bool.{and_parts}

pub within_integer : (area : List ℕ) (n : ℤ) → within_limits area (value.Integer n) ≡ true → nat_abs n ≤ largest
unfolding within_limits
within_integer area n e = leb-true (nat_abs n) largest e

pub within_decimal : (area : List ℕ) (d : Decimal) → within_limits area (value.Decimal d) ≡ true → (nat_abs d.units ≤ largest) × (d.places ≤ most_places)
unfolding within_limits
within_decimal area d e =
    let w = and_parts (leb (nat_abs d.units) largest) (leb d.places most_places) e in
    (leb-true (nat_abs d.units) largest w.0, leb-true d.places most_places w.1)

-- what the limits say of a text
pub record TextWithin (area : List ℕ) (t : Text) : Type 0 where
  pub low : 1 ≤ t.len
  pub high : t.len ≤ longest_text
  pub inside : t.start + t.len ≤ length area
  pub long : length (text_bytes area t) ≡ t.len
  pub printable : all_printable (text_bytes area t) ≡ true

pub within_text : (area : List ℕ) (t : Text) → within_limits area (value.Text t) ≡ true → TextWithin area t
unfolding within_limits text_bytes
within_text area t e =
    let w = and_parts (leb 1 t.len && leb t.len longest_text) (leb (t.start + t.len) (length area) && all_printable (text_bytes area t)) e in
    let a = and_parts (leb 1 t.len) (leb t.len longest_text) w.0 in
    let b = and_parts (leb (t.start + t.len) (length area)) (all_printable (text_bytes area t)) w.1 in
    let h = leb-true (t.start + t.len) (length area) b.0 in
    record {
      low = leb-true 1 t.len a.0;
      high = leb-true t.len longest_text a.1;
      inside = h;
      long = length_part area t.start t.len h;
      printable = b.1;
    }
