-- Digits read: the loop over them, and what its answers say.
-- Assumes nothing.
use mathlib.Core.Path.{◌≡◌, refl, sym, ap, ◌∙◌}
use mathlib.Core.Bool.{Bool, true, false, ◌&&◌, cond, and_assoc}
use mathlib.Core.List.{List, [], ◌∷◌, ◌++◌}
use Prim.Native.Nat.{ℕ, ◌+◌, ◌-◌, ◌*◌, ◌^◌, ◌<◌, ◌≤◌}
use native.Mathlib.Numerals.{add-one}
use native.Mathlib.Omega.{arith}
use borrow.Author.Tests.{leb-true}
use lib.Dec.{leb}
use lib.ListN.{length, take, drop, get_or}
use lib.Seq.{take-suc, take_all, length-take-le, drop-cons}
use Rattle.std.specs.Prelude.{None, Some}
use Rattle.number.specs.Limits.{largest}
use Rattle.number.specs.Digits.{is_digit, Digits, all_digits, value}
use Rattle.number.proofs.PowerLaws.{ten_le}
use Rattle.number.proofs.DigitLaws.{digit_bounds, digits_append, value_append, value_below, all_digits_lem, all_digits_is}
use Rattle.list_text.specs.ElementLines.{some_digits}
use Rattle.list_text.specs.Steps.{digits_read}
use Rattle.std.proofs.lemmas.Bool.{and_parts}

-- ---- the loop: the first i bytes are digits, which make v

pub record DigitsSoFar (s : List ℕ) (v i : ℕ) : Type 0 where
  pub bound : i ≤ length s
  pub all : Digits (take i s)
  pub is : v ≡ value (take i s)
  pub left : all_digits s ≡ all_digits (drop i s)

pub so_far_none : {s : List ℕ} → DigitsSoFar s 0 0
unfolding value
so_far_none = record { bound = omega arith; all = tt; is = refl; left = refl }

module _ {s : List ℕ} {v i : ℕ} (w : DigitsSoFar s v i) where
  -- so few digits make a small number
  pub so_far_low : i ≤ 17 → v < 10 ^ 17
  so_far_low h =
      let l : length (take i s) ≡ i = length-take-le i s w.bound in
      let b : value (take i s) < 10 ^ i = rw l at (value_below (take i s) w.all) in
      omega (arith, w.is, ten_le {i = i} {j = 17} h)

  module _ (h : i < length s) where
    rest_is : all_digits s ≡ (is_digit (get_or s i 0) && all_digits (drop (i + 1) s))
    unfolding all_digits
    rest_is = w.left ∙ rw (add-one i, drop-cons s i 0 h)

    pub so_far_more : is_digit (get_or s i 0) ≡ true → DigitsSoFar s (v * 10 + (get_or s i 0 - 48)) (i + 1)
    unfolding value
    so_far_more e =
        let b = digit_bounds (get_or s i 0) e in
        let f : value (take i s ++ (get_or s i 0 ∷ [])) ≡ value (take i s) * 10 + (get_or s i 0 - 48) = value_append (take i s) (get_or s i 0 ∷ []) ∙ omega arith in
        record {
          bound = omega arith;
          all = rw (add-one i, take-suc s i 0 h) (digits_append (take i s) (get_or s i 0 ∷ []) w.all (b.0, b.1, tt));
          is = rw (add-one i, take-suc s i 0 h) (rw w.is (sym f));
          left = rest_is ∙ rw e;
        }

    pub so_far_wrong : is_digit (get_or s i 0) ≡ false → all_digits s ≡ false
    so_far_wrong e = rest_is ∙ rw e

  pub so_far_all : length s ≤ i → (v ≡ value s) × (all_digits s ≡ true)
  so_far_all h =
      let t : take i s ≡ s = take_all i s h in
      (w.is ∙ ap value t, all_digits_lem s (rw t at w.all))

-- ---- the answers

module _ (most : ℕ) (s : List ℕ) where
  pub digits_outside : (leb 1 (length s) && leb (length s) most) ≡ false → None ≡ digits_read most s
  unfolding digits_read some_digits
  digits_outside e = rw (← and_assoc (leb 1 (length s)) (leb (length s) most) (all_digits s), e)

  module _ (fits : (leb 1 (length s) && leb (length s) most) ≡ true) where
    pub digits_short : length s ≤ most
    digits_short = leb-true (length s) most (and_parts (leb 1 (length s)) (leb (length s) most) fits).1

    pub digits_wrong : all_digits s ≡ false → None ≡ digits_read most s
    unfolding digits_read some_digits
    digits_wrong e = rw (← and_assoc (leb 1 (length s)) (leb (length s) most) (all_digits s), fits, e)

    pub digits_right : {v : ℕ} → (v ≡ value s) × (all_digits s ≡ true) → Some v ≡ digits_read most s
    unfolding digits_read some_digits
    digits_right e = rw (← and_assoc (leb 1 (length s)) (leb (length s) most) (all_digits s), fits, e.1, e.0)

-- ---- what an answer says of the text

pub some_digits_lem : (most : ℕ) (s : List ℕ) → some_digits most s ≡ true → (1 ≤ length s) × (length s ≤ most) × Digits s
unfolding some_digits
some_digits_lem most s e =
    let a = and_parts (leb 1 (length s)) (leb (length s) most && all_digits s) e in
    let b = and_parts (leb (length s) most) (all_digits s) a.1 in
    (leb-true 1 (length s) a.0, leb-true (length s) most b.0, (all_digits_is s).0 b.1)

-- a number of at most 18 digits is within the limits
pub digits_largest : (most : ℕ) (s : List ℕ) → most ≤ 18 → some_digits most s ≡ true → value s ≤ largest
digits_largest most s h e =
    let d = some_digits_lem most s e in
    omega (arith, value_below s d.2, ten_le {i = length s} {j = 18} (omega arith))

pub digits_value : (most : ℕ) (s : List ℕ) {m : ℕ} → digits_read most s ≡ Some m → (some_digits most s ≡ true) × (m ≡ value s)
unfolding digits_read
digits_value most s {m} e = go (some_digits most s) refl e
  where
    go : (b : Bool) → some_digits most s ≡ b → cond b (Some (value s)) None ≡ Some m → (some_digits most s ≡ true) × (m ≡ value s)
    go true p q = (p, (cc))
    go false p q = cc

pub digits_none : (most : ℕ) (s : List ℕ) → digits_read most s ≡ None → some_digits most s ≡ false
unfolding digits_read
digits_none most s e = go (some_digits most s) refl e
  where
    go : (b : Bool) → some_digits most s ≡ b → cond b (Some (value s)) None ≡ None → some_digits most s ≡ false
    go true p q = cc
    go false p q = p
