-- Laws of a number read: its digits, the point, and its limits.
-- Assumes nothing.
use mathlib.Core.Path.{◌≡◌, refl, ap}
use mathlib.Core.Bool.{false, ◌&&◌, cond, and-false}
use mathlib.Core.List.{List, [], ◌∷◌, ◌++◌}
use Prim.Native.Nat.{ℕ, suc, ◌<◌, ◌≤◌}
use native.Mathlib.Nat.{mul-le-mul_left, mul-one}
use native.Mathlib.Omega.{arith}
use borrow.Author.Tests.{ne_eqb, lt-ltb, le-leb, lt-leb}
use lib.Dec.{leb, eqb, ltb}
use lib.ListN.{length}
use Rattle.number.specs.Limits.{largest}
use Rattle.number.specs.Digits.{is_digit, Digits, all_digits, value}
use Rattle.number.proofs.PowerLaws.{ten_pos}
use Rattle.number.proofs.DigitLaws.{value_append, all_digits_lem}
use Rattle.field_written.specs.Numeral.{signed}
use Rattle.field_written.specs.declared.Sign.{Sign}
use Rattle.field_read.specs.Read.{number, before_point, from_point, number_read}
use Rattle.std.specs.Prelude.{None}

some_other : (ds : List ℕ) (c : ℕ) (more : List ℕ) → is_digit c ≡ false → all_digits (ds ++ (c ∷ more)) ≡ false
unfolding all_digits
some_other [] c more h = rw h
some_other (x ∷ xs) c more h = rw (some_other xs c more h) (and-false (is_digit x))

value_more : (ds more : List ℕ) → value ds ≤ value (ds ++ more)
value_more ds more =
    omega (arith, value_append ds more, rw mul-one at (mul-le-mul_left (value ds) (ten_pos (length more))))

-- ---- the number of the digits x ++ y, y after the point

module _ (s : Sign) (p : ℕ) (x y : List ℕ) where
  pub number_good : Digits (x ++ y) → length y ≤ 9 → value (x ++ y) ≤ largest → number_read s p x y ≡ cond (eqb (length (x ++ y)) 0) None (number (signed s (value (x ++ y))) p)
  unfolding number_read
  number_good a l v = go (x ++ y) refl
    where
      go : (z : List ℕ) → x ++ y ≡ z → cond (ltb 0 (length (x ++ y)) && all_digits (x ++ y) && leb (length y) 9 && leb (value (x ++ y)) largest) (number (signed s (value (x ++ y))) p) None ≡ cond (eqb (length (x ++ y)) 0) None (number (signed s (value (x ++ y))) p)
      go [] e = rw e
      go (c ∷ z) e =
          let n : length (x ++ y) ≡ suc (length z) = ap length e in
          simp (lt-ltb 0 (length (x ++ y)) (omega arith), all_digits_lem (x ++ y) a, le-leb (length y) 9 l, le-leb (value (x ++ y)) largest v, ne_eqb (length (x ++ y)) 0 (λ q. omega arith))

  pub number_bad : (ds : List ℕ) (c : ℕ) (more : List ℕ) → x ++ y ≡ ds ++ (c ∷ more) → is_digit c ≡ false → number_read s p x y ≡ None
  unfolding number_read
  number_bad ds c more e h = rw (e, some_other ds c more h) (simp and-false)

  pub number_over : (ds more : List ℕ) → x ++ y ≡ ds ++ more → largest < value ds → number_read s p x y ≡ None
  unfolding number_read
  number_over ds more e h =
      let v : largest < value (x ++ y) = rw e (omega (arith, value_more ds more)) in
      simp (lt-leb (value (x ++ y)) largest v, and-false)

  pub number_long : 9 < length y → number_read s p x y ≡ None
  unfolding number_read
  number_long h = simp (lt-leb (length y) 9 h, and-false)

-- ---- the point

pub before_digits : (x z : List ℕ) → Digits x → before_point (x ++ z) ≡ x ++ before_point z
unfolding before_point
before_digits [] z h = refl
before_digits (c ∷ x) z h = simp (ne_eqb c 46 (λ e. omega arith), before_digits x z h.2)

pub from_digits : (x z : List ℕ) → Digits x → from_point (x ++ z) ≡ from_point z
unfolding from_point
from_digits [] z h = refl
from_digits (c ∷ x) z h = simp (ne_eqb c 46 (λ e. omega arith), from_digits x z h.2)

pub before_other : (c : ℕ) (z : List ℕ) → (c ≡ 46 → ⊥) → before_point (c ∷ z) ≡ c ∷ before_point z
unfolding before_point
before_other c z e = simp (ne_eqb c 46 e)

pub at_point : (y : List ℕ) → (before_point (46 ∷ y) ≡ []) × (from_point (46 ∷ y) ≡ 46 ∷ y)
unfolding before_point from_point
at_point y = (refl, refl)

pub before_all : (x : List ℕ) → Digits x → before_point x ≡ x
unfolding before_point
before_all [] h = refl
before_all (c ∷ x) h = simp (ne_eqb c 46 (λ e. omega arith), before_all x h.2)

pub from_all : (x : List ℕ) → Digits x → from_point x ≡ []
unfolding from_point
from_all [] h = refl
from_all (c ∷ x) h = simp (ne_eqb c 46 (λ e. omega arith), from_all x h.2)
