-- The digits before the point: how many hold the integer part.
-- Assumes nothing.
use mathlib.Core.Path.{◌≡◌, refl, ap}
use mathlib.Core.Bool.{Bool, true, false}
use Prim.Native.Nat.{ℕ, zero, suc, ◌+◌, ◌-◌, ◌/◌, ◌^◌, ◌<◌, ◌≤◌}
use native.Mathlib.Nat.{div-eq_of_lt, div-lt_iff_lt-mul, div-one, lt_of_lt_of_le}
use native.Mathlib.Omega.{arith}
use lib.Pow.{pow-add}
use borrow.Author.Tests.{ltb-true, ltb-false, eqb-true, eqb-false}
use lib.Dec.{ltb, eqb}
use Rattle.number.specs.Digits.{digit_count, count_digits}
use Rattle.number.proofs.PowerLaws.{ten_pos, ten_le, ten_split}
use Rattle.number.proofs.DigitLaws.{digit_count_least, digit_count_holds, digit_count_pos}
use Rattle.field_written.specs.Numeral.{Numeric, I, F, places}
use Rattle.field_written.specs.Written.{most_digits, fewest_digits}

-- the integer part
abbrev pub whole_part : Numeric → ℕ → ℕ
whole_part f m = m / 10 ^ places f

pub most_holds : (f : Numeric) (m : ℕ) → whole_part f m < 10 ^ most_digits f m
unfolding most_digits
most_holds f m = digit_count_holds (whole_part f m)

-- as many as a number of that value has
pub most_as : (f : Numeric) (m : ℕ) {v : ℕ} → v ≡ whole_part f m → digit_count v ≡ most_digits f m
unfolding most_digits
most_as f m e = ap digit_count e

pub most_pos : (f : Numeric) (m : ℕ) → 0 < most_digits f m
unfolding most_digits
most_pos f m = digit_count_pos (whole_part f m)

-- ---- by cases: the integer part is 0 and digits follow the point, or not

pub data Fewest (f : Numeric) (m : ℕ) : Type 0 where
  gone : fewest_digits f m ≡ 0 → whole_part f m ≡ 0 → 0 < places f → Fewest f m
  kept : fewest_digits f m ≡ most_digits f m → (whole_part f m ≡ 0 → places f ≡ 0) → Fewest f m

pub fewest_cases : (f : Numeric) (m : ℕ) → Fewest f m
unfolding fewest_digits
fewest_cases f m = go (ltb 0 (places f)) (eqb (whole_part f m) 0) refl refl
  where
    go : (a b : Bool) → ltb 0 (places f) ≡ a → eqb (whole_part f m) 0 ≡ b → Fewest f m
    go true true p q = gone (simp (p, q)) (eqb-true (whole_part f m) 0 q) (ltb-true 0 (places f) p)
    go true false p q = kept (simp (p, q)) (λ e. absurd (eqb-false (whole_part f m) 0 q e))
    go false b p q = kept (simp p) (λ e. omega (arith, ltb-false 0 (places f) p))

pub fewest_most : (f : Numeric) (m : ℕ) → fewest_digits f m ≤ most_digits f m
fewest_most f m = go (fewest_cases f m)
  where
    go : Fewest f m → fewest_digits f m ≤ most_digits f m
    go (gone e q p) = omega arith
    go (kept e k) = omega arith

-- they hold the integer part, with one digit at least in all
pub fewest_holds : (f : Numeric) (m : ℕ) → (whole_part f m < 10 ^ fewest_digits f m) × (0 < fewest_digits f m + places f)
fewest_holds f m = go (fewest_cases f m)
  where
    go : Fewest f m → (whole_part f m < 10 ^ fewest_digits f m) × (0 < fewest_digits f m + places f)
    go (gone e q p) = (rw (e, q) (omega arith), omega arith)
    go (kept e k) = (rw e (most_holds f m), omega (arith, most_pos f m))

-- and no fewer do
pub fewest_least : (f : Numeric) (m k : ℕ) → whole_part f m < 10 ^ k → 0 < k + places f → fewest_digits f m ≤ k
unfolding most_digits
fewest_least f m zero h g = go (fewest_cases f m)
  where
    go : Fewest f m → fewest_digits f m ≤ 0
    go (gone e q p) = omega arith
    go (kept e k) =
        let z : whole_part f m ≡ 0 = omega arith in
        absurd (omega (arith, k z))
fewest_least f m (suc k) h g = omega (arith, fewest_most f m, digit_count_least (whole_part f m) (suc k) (omega arith) h)

-- ---- where the zero is left out, and where not

digit_count_zero : digit_count 0 ≡ 1
unfolding digit_count count_digits
digit_count_zero = refl

pub most_of_zero : (f : Numeric) (m : ℕ) → whole_part f m ≡ 0 → most_digits f m ≡ 1
unfolding most_digits
most_of_zero f m q = rw q digit_count_zero

pub most_zero : (f : Numeric) (m : ℕ) → fewest_digits f m ≡ 0 → most_digits f m ≡ 1
most_zero f m z = go (fewest_cases f m)
  where
    go : Fewest f m → most_digits f m ≡ 1
    go (gone e q p) = most_of_zero f m q
    go (kept e k) = absurd (omega (arith, most_pos f m))

pub most_some : (f : Numeric) (m : ℕ) → 0 < fewest_digits f m → fewest_digits f m ≡ most_digits f m
most_some f m h = go (fewest_cases f m)
  where
    go : Fewest f m → fewest_digits f m ≡ most_digits f m
    go (gone e q p) = absurd (omega arith)
    go (kept e k) = e

-- ---- by the digits of m in all

pub fewest_integer : (m : ℕ) → (fewest_digits I m ≡ digit_count m) × (most_digits I m ≡ digit_count m)
unfolding fewest_digits most_digits
fewest_integer m = (rw (div-one m), rw (div-one m))

pub fewest_none : (d m : ℕ) → digit_count m ≤ d → fewest_digits (F d) m ≡ 0
fewest_none d m h =
    let q : whole_part (F d) m ≡ 0 = div-eq_of_lt (lt_of_lt_of_le (digit_count_holds m) (ten_le h)) in
    omega (arith, fewest_least (F d) m 0 (rw q (omega arith)) (omega (arith, digit_count_pos m)))

pub fewest_some : (d m : ℕ) → d < digit_count m → fewest_digits (F d) m + d ≡ digit_count m
fewest_some d m h =
    let k : ℕ = digit_count m in
    let n : ℕ = fewest_digits (F d) m in
    let low : whole_part (F d) m < 10 ^ (k - d) = (div-lt_iff_lt-mul (ten_pos d)).1 (rw (← ten_split d k (omega arith)) (digit_count_holds m)) in
    let least : n ≤ k - d = fewest_least (F d) m (k - d) low (omega arith) in
    let whole : m < 10 ^ (n + d) = rw (pow-add 10 n d) ((div-lt_iff_lt-mul (ten_pos d)).0 (fewest_holds (F d) m).0) in
    let most : k ≤ n + d = digit_count_least m (n + d) (fewest_holds (F d) m).1 whole in
    omega arith
