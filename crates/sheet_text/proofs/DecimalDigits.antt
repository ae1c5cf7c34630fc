-- Numerals of more than 18 digits, put in two parts.
-- Assumes nothing.
use mathlib.Core.Path.{◌≡◌, sym, ap, ◌∙◌}
use mathlib.Core.List.{List, ◌++◌, append_assoc}
use Prim.Native.Nat.{ℕ, zero, suc, ◌+◌, ◌-◌, ◌*◌, ◌/◌, ◌%◌, ◌^◌, ◌<◌, ◌≤◌}
use native.Mathlib.Nat.{add_comm, div-div-eq-div-mul, div-lt_iff_lt-mul, le-div_iff_mul-le}
use native.Mathlib.Decide.{dec_lt}
use native.Mathlib.Omega.{arith}
use lib.ListN.{length}
use lib.Pow.{pow-add}
use Rattle.number.specs.Limits.{largest}
use Rattle.number.specs.Digits.{digits_of, digit_count}
use Rattle.number.proofs.PowerLaws.{ten_pos}
use Rattle.number.proofs.DigitLaws.{length_digits, digit_count_least, digit_count_holds, digit_count_pos, count_more, count_found, digits_cut}
use Rattle.sheet_text.specs.Output.{decimal_digits}

pub length_decimal_digits : (n : ℕ) → length (decimal_digits n) ≡ digit_count n
unfolding decimal_digits
length_decimal_digits n = length_digits (digit_count n) n

-- the first digits of a u64 are few
pub high_low : (n : ℕ) {p : ℕ} → p ≡ 10 ^ 18 → n < 2 ^ 64 → n / p ≤ largest
high_low n {p} e h = let b : n / 10 ^ 18 < 19 = (div-lt_iff_lt-mul (ten_pos 18)).1 (omega arith) in rw e (omega arith)

-- the digits in two parts
digits_add : (a b m : ℕ) → digits_of (a + b) m ≡ digits_of a (m / 10 ^ b) ++ digits_of b m
unfolding digits_of
digits_add zero b m = let z : zero + b ≡ b = omega arith in ap (λ (k : ℕ). digits_of k m) z
digits_add (suc a) b m =
    let k : suc a + b ≡ suc (a + b) = omega arith in
    let p : 10 ^ (a + b) ≡ 10 ^ b * 10 ^ a = ap (λ (n : ℕ). 10 ^ n) (add_comm a b) ∙ pow-add 10 b a in
    let q : m / 10 ^ (a + b) ≡ m / 10 ^ b / 10 ^ a = rw p (sym (div-div-eq-div-mul m (10 ^ b) (10 ^ a))) in
    ap (λ (n : ℕ). digits_of n m) k ∙ rw (q, digits_add a b m)

-- the least number of c digits is no larger
least_of : (h : ℕ) → 1 ≤ h → 10 ^ (digit_count h - 1) ≤ h
least_of h s =
    elim (dec_lt h (10 ^ (digit_count h - 1))) [
      | no g ↦ omega arith
      | yes g ↦ go (dec_lt 0 (digit_count h - 1)) g
    ]
  where
    go : Dec (0 < digit_count h - 1) → h < 10 ^ (digit_count h - 1) → 10 ^ (digit_count h - 1) ≤ h
    go (yes p) g = absurd (omega (arith, digit_count_least h (digit_count h - 1) p g))
    go (no p) g =
        let z : digit_count h - 1 ≡ 0 = omega arith in
        rw z s

module _ (n k : ℕ) (high : 10 ^ k ≤ n) where
  some_high : 1 ≤ n / 10 ^ k
  some_high = (le-div_iff_mul-le (ten_pos k)).1 (omega arith)

  count_high : digit_count n ≡ digit_count (n / 10 ^ k) + k
  count_high =
      let c : ℕ = digit_count (n / 10 ^ k) in
      let below : n < 10 ^ (c + k) = rw (pow-add 10 c k) ((div-lt_iff_lt-mul (ten_pos k)).0 (digit_count_holds (n / 10 ^ k))) in
      let e : c - 1 + k + 1 ≡ c + k = omega (arith, digit_count_pos (n / 10 ^ k)) in
      let above : 10 ^ (c - 1 + k) ≤ n = rw (pow-add 10 (c - 1) k) ((le-div_iff_mul-le (ten_pos k)).0 (least_of (n / 10 ^ k) some_high)) in
      sym (count_found n (c + k) (omega (arith, digit_count_pos (n / 10 ^ k))) (omega (arith, count_more n (c - 1 + k) above)) below)

  pub decimal_digits_parts : decimal_digits n ≡ decimal_digits (n / 10 ^ k) ++ digits_of k (n % 10 ^ k)
  unfolding decimal_digits
  decimal_digits_parts = rw count_high (digits_add (digit_count (n / 10 ^ k)) k n ∙ ap (λ (l : List ℕ). digits_of (digit_count (n / 10 ^ k)) (n / 10 ^ k) ++ l) (sym (digits_cut k n)))

-- ---- the digits as they are put

module _ (n : ℕ) {p : ℕ} (is : p ≡ 10 ^ 18) where
  -- of more than 18 digits
  module _ (high : 0 < n / p) where
    large : 10 ^ 18 ≤ n
    large = let h : 1 ≤ n / 10 ^ 18 = rw is at high in omega (arith, (le-div_iff_mul-le (ten_pos 18)).0 h)

    pub digits_in_parts : (before : List ℕ) {first all : List ℕ} {k : ℕ} → k ≡ digit_count (n / p) → first ≡ before ++ digits_of k (n / p) → all ≡ first ++ digits_of 18 n → all ≡ before ++ decimal_digits n
    unfolding decimal_digits
    digits_in_parts before e f g =
        g ∙ rw (f, e, append_assoc before (digits_of (digit_count (n / p)) (n / p)) (digits_of 18 n))
        (ap (λ (l : List ℕ). before ++ l) (rw is (rw (← digits_cut 18 n) (sym (decimal_digits_parts n 18 large)))))
