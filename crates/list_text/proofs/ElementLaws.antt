-- Numbers and elements of lines, as the code tests them.
-- Assumes nothing.
use mathlib.Core.Path.{◌≡◌, refl}
use mathlib.Core.Bool.{Bool, true, false, cond}
use mathlib.Core.List.{List, [], ◌∷◌}
use Prim.Native.Nat.{ℕ, ◌+◌, ◌-◌, ◌<◌, ◌≤◌}
use native.Mathlib.Omega.{arith}
use borrow.Author.Tests.{eq-eqb, ne_eqb}
use lib.Dec.{eqb}
use lib.IntN.{ℤ}
use lib.ListN.{length, take, drop, get_or, length-drop, get_or-eq_default}
use lib.Seq.{take_all}
use Rattle.std.specs.Prelude.{None, Some}
use Rattle.std.proofs.lemmas.Bool.{and_right}
use Rattle.buffer.specs.Characters.{blank, minus_sign, digit_zero, letter_i, letter_d, letter_l, letter_a, letter_t, letter_f}
use Rattle.number.specs.Limits.{most_digits, largest}
use Rattle.number.specs.Digits.{is_digit}
use Rattle.number.specs.Magnitude.{with_sign}
use Rattle.list_elements.specs.declared.Value.TheVariants.{Integer, Decimal, Logical, Text}
use Rattle.list_text.specs.ElementLines.{some_digits, is_number, number_of, malformed, integer_line, units_part, decimal_line, logical_line, begins, element_on}
use Rattle.list_text.specs.Steps.{digits_read, signed_read, number_read}
use Rattle.list_text.proofs.DigitReads.{digits_largest, digits_value, digits_none}

-- a part up to the end, as a slice has it
pub part_rest : (s : List ℕ) (n : ℕ) → take (length s - n) (drop n s) ≡ drop n s
part_rest s n = take_all (length s - n) (drop n s) (rw length-drop (omega arith))

-- ---- numbers

pub number_empty : (s : List ℕ) → length s < 1 → None ≡ number_read s
unfolding number_read is_number some_digits
number_empty [] h = refl
number_empty (x ∷ s) h = absurd (omega arith)

module _ (s : List ℕ) where
  pub digits_low : {m : ℕ} → digits_read most_digits s ≡ Some m → m ≤ largest
  digits_low {m} e =
      let w = digits_value most_digits s e in
      rw w.1 (digits_largest most_digits s (omega arith) w.0)

  pub signed_right : {m : ℕ} {z : ℤ} (b : Bool) → digits_read most_digits s ≡ Some m → z ≡ with_sign b m → Some z ≡ signed_read b s
  unfolding signed_read
  signed_right {m} {z} b e q =
      let w = digits_value most_digits s e in
      rw (w.0, q, w.1)

  pub signed_wrong : (b : Bool) → digits_read most_digits s ≡ None → None ≡ signed_read b s
  unfolding signed_read
  signed_wrong b e = rw (digits_none most_digits s e)

  -- a minus, and what follows it; or none
  pub number_minus : {rest : List ℕ} → rest ≡ drop 1 s → get_or s 0 0 ≡ minus_sign → signed_read true rest ≡ number_read s
  unfolding signed_read number_read is_number number_of
  number_minus q e = rw (q, eq-eqb (get_or s 0 0) minus_sign e)

  pub number_plain : (get_or s 0 0 ≡ minus_sign → ⊥) → signed_read false s ≡ number_read s
  unfolding signed_read number_read is_number number_of
  number_plain e = rw (ne_eqb (get_or s 0 0) minus_sign e)

number_value : (s : List ℕ) {z : ℤ} → number_read s ≡ Some z → (is_number s ≡ true) × (z ≡ number_of s)
unfolding number_read
number_value s {z} e = go (is_number s) refl e
  where
    go : (b : Bool) → is_number s ≡ b → cond b (Some (number_of s)) None ≡ Some z → (is_number s ≡ true) × (z ≡ number_of s)
    go true p q = (p, (cc))
    go false p q = cc

number_none : (s : List ℕ) → number_read s ≡ None → is_number s ≡ false
unfolding number_read
number_none s e = go (is_number s) refl e
  where
    go : (b : Bool) → is_number s ≡ b → cond b (Some (number_of s)) None ≡ None → is_number s ≡ false
    go true p q = cc
    go false p q = p

-- ---- the lines of the kinds

pub integer_right : (s : List ℕ) {z : ℤ} → number_read s ≡ Some z → Integer z ≡ integer_line s
unfolding integer_line
integer_right s e = let w = number_value s e in rw (w.0, w.1)

pub integer_wrong : (s : List ℕ) → number_read s ≡ None → malformed ≡ integer_line s
unfolding integer_line
integer_wrong s e = rw (number_none s e)

module _ (s : List ℕ) where
  pub decimal_short : length s < 2 → malformed ≡ decimal_line s
  unfolding decimal_line is_number some_digits
  decimal_short h = let e : length s - 2 ≡ 0 = omega arith in rw e

  pub decimal_unblank : (get_or s (length s - 2) 0 ≡ blank → ⊥) → malformed ≡ decimal_line s
  unfolding decimal_line
  decimal_unblank n = rw (ne_eqb (get_or s (length s - 2) 0) blank n, and_right (is_number (units_part s)) false refl)

  pub decimal_places : get_or s (length s - 2) 0 ≡ blank → is_digit (get_or s (length s - 1) 0) ≡ false → malformed ≡ decimal_line s
  unfolding decimal_line
  decimal_places e f = rw (eq-eqb (get_or s (length s - 2) 0) blank e, f, and_right (is_number (units_part s)) false refl)

  module _ (e : get_or s (length s - 2) 0 ≡ blank) (d : is_digit (get_or s (length s - 1) 0) ≡ true) where
    pub decimal_right : {z : ℤ} → number_read (units_part s) ≡ Some z → Decimal (record { units = z; places = get_or s (length s - 1) 0 - digit_zero }) ≡ decimal_line s
    unfolding decimal_line
    decimal_right f = let w = number_value (units_part s) f in rw (eq-eqb (get_or s (length s - 2) 0) blank e, d, w.0, w.1)

    pub decimal_wrong : number_read (units_part s) ≡ None → malformed ≡ decimal_line s
    unfolding decimal_line
    decimal_wrong f = rw (number_none (units_part s) f)

module _ (s : List ℕ) where
  pub logical_long : (length s ≡ 1 → ⊥) → malformed ≡ logical_line s
  unfolding logical_line
  logical_long n = rw (ne_eqb (length s) 1 n)

  module _ (l : length s ≡ 1) where
    pub logical_true : get_or s 0 0 ≡ letter_t → Logical true ≡ logical_line s
    unfolding logical_line
    logical_true e = rw (eq-eqb (length s) 1 l, eq-eqb (get_or s 0 0) letter_t e)

    pub logical_false : (get_or s 0 0 ≡ letter_t → ⊥) → get_or s 0 0 ≡ letter_f → Logical false ≡ logical_line s
    unfolding logical_line
    logical_false n e = rw (eq-eqb (length s) 1 l, ne_eqb (get_or s 0 0) letter_t n, eq-eqb (get_or s 0 0) letter_f e)

    pub logical_wrong : (get_or s 0 0 ≡ letter_t → ⊥) → (get_or s 0 0 ≡ letter_f → ⊥) → malformed ≡ logical_line s
    unfolding logical_line
    logical_wrong n m = rw (eq-eqb (length s) 1 l, ne_eqb (get_or s 0 0) letter_t n, ne_eqb (get_or s 0 0) letter_f m)

-- ---- the element

not_begun : (letter : ℕ) (l : List ℕ) → (get_or l 1 0 ≡ blank → ⊥) → begins letter l ≡ false
not_begun letter l n = and_right (eqb (get_or l 0 0) letter) (eqb (get_or l 1 0) blank) (ne_eqb (get_or l 1 0) blank n)

other_letter : (letter : ℕ) (l : List ℕ) → (get_or l 0 0 ≡ letter → ⊥) → begins letter l ≡ false
other_letter letter l n = rw (ne_eqb (get_or l 0 0) letter n)

begun : (letter : ℕ) (l : List ℕ) → get_or l 1 0 ≡ blank → get_or l 0 0 ≡ letter → begins letter l ≡ true
begun letter l b e = rw (eq-eqb (get_or l 0 0) letter e, eq-eqb (get_or l 1 0) blank b)

module _ (start : ℕ) (l : List ℕ) where
  pub element_unblank : (get_or l 1 0 ≡ blank → ⊥) → malformed ≡ element_on start l
  unfolding element_on
  element_unblank n = rw (not_begun letter_i l n, not_begun letter_d l n, not_begun letter_l l n, not_begun letter_a l n)

  pub element_short : length l < 2 → malformed ≡ element_on start l
  element_short h = element_unblank (λ e. let d : get_or l 1 0 ≡ 0 = get_or-eq_default l 0 (omega arith) in omega arith)

  module _ (b : get_or l 1 0 ≡ blank) where
    pub element_integer : get_or l 0 0 ≡ letter_i → integer_line (drop 2 l) ≡ element_on start l
    unfolding element_on
    element_integer e = rw (begun letter_i l b e)

    module _ (i : get_or l 0 0 ≡ letter_i → ⊥) where
      pub element_decimal : get_or l 0 0 ≡ letter_d → decimal_line (drop 2 l) ≡ element_on start l
      unfolding element_on
      element_decimal e = rw (other_letter letter_i l i, begun letter_d l b e)

      module _ (d : get_or l 0 0 ≡ letter_d → ⊥) where
        pub element_logical : get_or l 0 0 ≡ letter_l → logical_line (drop 2 l) ≡ element_on start l
        unfolding element_on
        element_logical e = rw (other_letter letter_i l i, other_letter letter_d l d, begun letter_l l b e)

        module _ (t : get_or l 0 0 ≡ letter_l → ⊥) where
          pub element_text : get_or l 0 0 ≡ letter_a → Text (record { start = start + 2; len = length l - 2 }) ≡ element_on start l
          unfolding element_on
          element_text e = rw (other_letter letter_i l i, other_letter letter_d l d, other_letter letter_l l t, begun letter_a l b e)

          pub element_other : (get_or l 0 0 ≡ letter_a → ⊥) → malformed ≡ element_on start l
          unfolding element_on
          element_other a = rw (other_letter letter_i l i, other_letter letter_d l d, other_letter letter_l l t, other_letter letter_a l a)
