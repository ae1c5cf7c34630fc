-- The loop that makes digits from the units on.
-- Assumes nothing.
use mathlib.Core.Path.{◌≡◌, sym, ap, ◌∙◌}
use mathlib.Core.List.{List, ◌++◌, append-nil}
use Prim.Native.Nat.{ℕ, suc, ◌+◌, ◌-◌, ◌/◌, ◌%◌, ◌^◌, ◌<◌, ◌≤◌}
use native.Mathlib.Nat.{div-div-eq-div-mul, div-one, pow-suc}
use native.Mathlib.Omega.{arith}
use lib.ListN.{length, take, drop, set, length-append}
use lib.Seq.{take-append-le, take-take, take-length, drop_at, length-take-le, set_split}
use Rattle.number.specs.Digits.{digits_of}
use Rattle.number.proofs.DigitLaws.{length_digits}

-- behind the first i bytes of the part d₀ stand the last digits of m, and the digits before them make `rest`
pub record Made (d₀ : List ℕ) (m : ℕ) (d : List ℕ) (rest i : ℕ) : Type 0 where
  pub bound : i ≤ length d₀
  pub laid : d ≡ take i d₀ ++ digits_of (length d₀ - i) m
  pub left : rest ≡ m / 10 ^ (length d₀ - i)

pub made_none : (d : List ℕ) (m : ℕ) → Made d m d m (length d)
unfolding digits_of
made_none d m =
    let e : length d - length d ≡ 0 = omega arith in
    record { bound = omega arith; laid = rw (e, take-length d, append-nil d); left = rw e (sym (div-one m)) }

module _ {d₀ : List ℕ} {m : ℕ} {d : List ℕ} {rest i : ℕ} (w : Made d₀ m d rest i) where
  pub made_long : length d ≡ length d₀
  made_long = rw w.laid (simp (length-append, length_digits, length-take-le i d₀ w.bound) (omega (arith, w.bound)))

  pub made_more : {front digit : ℕ} → 0 < i → front ≡ rest / 10 → digit ≡ rest % 10 → Made d₀ m (set d (i - 1) (48 + digit)) front (i - 1)
  unfolding digits_of
  made_more {front} {digit} l a b =
      let j : ℕ = i - 1 in
      let h : i ≡ suc j = omega arith in
      let k : ℕ = length d₀ - i in
      let e : length d₀ - j ≡ suc k = omega (arith, w.bound) in
      let f : length (take (suc j) d₀) ≡ suc j = length-take-le (suc j) d₀ (omega (arith, w.bound)) in
      let v : ℕ = 48 + digit in
      let first : take j (take (suc j) d₀ ++ digits_of k m) ≡ take j d₀ = rw (take-append-le j (take (suc j) d₀) (digits_of k m) (omega arith)) (take-take j (suc j) d₀ (omega arith)) in
      let back : drop (suc j) (take (suc j) d₀ ++ digits_of k m) ≡ digits_of k m = drop_at (take (suc j) d₀) (digits_of k m) (suc j) f in
      let laid : d ≡ take (suc j) d₀ ++ digits_of k m = w.laid ∙ ap (λ (n : ℕ). take n d₀ ++ digits_of k m) h in
      record {
        bound = omega (arith, w.bound);
        laid = rw (e, ← w.left, ← b) (set_split d j v (omega (arith, made_long, w.bound)) ∙ rw laid (rw (first, back)));
        left = a ∙ rw (e, w.left) (div-div-eq-div-mul m (10 ^ k) 10 ∙ rw (pow-suc 10 k));
      }
