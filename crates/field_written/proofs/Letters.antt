-- Laws of the fields of logicals and texts.
-- Assumes nothing.
use mathlib.Core.Path.{◌≡◌, refl}
use mathlib.Core.Bool.{Bool, true, false}
use mathlib.Core.List.{List, [], ◌∷◌}
use Prim.Native.Nat.{ℕ, ◌<◌, ◌≤◌}
use native.Mathlib.Omega.{arith}
use lib.Dec.{leb}
use lib.ListN.{length, take, length-append, length-replicate}
use lib.Seq.{length-take-le}
use borrow.Author.Tests.{le-leb, lt-leb, leb-true, leb-false}
use Rattle.field_written.specs.Written.{justified}
use Rattle.field_written.specs.LogicalField.{letter, logical_field}
use Rattle.field_written.specs.TextField.{text_field}

length_justified : (w : ℕ) (t : List ℕ) → length t ≤ w → length (justified w t) ≡ w
length_justified w t h = simp (length-append, length-replicate) (omega arith)

-- ---- a logical

pub length_logical : (w : ℕ) (b : Bool) → 1 ≤ w → length (logical_field w b) ≡ w
unfolding logical_field
length_logical w b h = length_justified w (letter b ∷ []) h

-- ---- a text

module _ (w : ℕ) (text : List ℕ) where
  pub text_fits : length text ≤ w → text_field w text ≡ justified w text
  unfolding text_field
  text_fits h = rw (le-leb (length text) w h)

  pub text_cut : w < length text → text_field w text ≡ take w text
  unfolding text_field
  text_cut h = rw (lt-leb (length text) w h)

  pub length_text : length (text_field w text) ≡ w
  length_text = go (leb (length text) w) refl
    where
      go : (b : Bool) → leb (length text) w ≡ b → length (text_field w text) ≡ w
      go true e =
          let h : length text ≤ w = leb-true (length text) w e in
          rw (text_fits h) (length_justified w text h)
      go false e =
          let h : w < length text = leb-false (length text) w e in
          rw (text_cut h) (length-take-le w text (omega arith))
