-- The loop over a run of digits.
-- Assumes nothing.
use mathlib.Core.Path.{◌≡◌, refl, ap, ◌∙◌}
use mathlib.Core.Bool.{Bool, true, false, ◌&&◌}
use mathlib.Core.List.{List, [], ◌∷◌, ◌++◌, append_assoc}
use Prim.Native.Nat.{ℕ, ◌+◌, ◌-◌, ◌*◌, ◌^◌, ◌<◌, ◌≤◌}
use native.Mathlib.Nat.{pow-suc}
use native.Mathlib.Numerals.{add-one}
use native.Mathlib.Omega.{arith}
use lib.Dec.{leb}
use lib.ListN.{length, length-append}
use borrow.Author.Tests.{leb-true}
use Rattle.number.specs.Limits.{largest}
use Rattle.number.specs.Digits.{is_digit, Digits, value}
use Rattle.number.proofs.DigitLaws.{value_append, digits_append}
use Rattle.field_read.specs.Read.{unblanked}
use Rattle.field_read.specs.Steps.{RunSoFar, Ran, RunTooLarge, Stopped}
use Rattle.field_read.proofs.Blanks.{at_blank, at_other, ends_after}

-- ---- where a run stops

pub no_digit : (x : ℕ) → (48 ≤ x → x ≤ 57 → ⊥) → is_digit x ≡ false
no_digit x n = go (leb 48 x) (leb x 57) refl refl
  where
    go : (a b : Bool) → leb 48 x ≡ a → leb x 57 ≡ b → (a && b) ≡ false
    go true true p q = absurd (n (leb-true 48 x p) (leb-true x 57 q))
    go true false p q = refl
    go false b p q = refl

pub stopped_none : (s : List ℕ) → length s < 1 → Stopped s
stopped_none [] h = tt
stopped_none (x ∷ s) h = absurd (omega arith)

-- ---- the loop

pub running_none : {s : List ℕ} {v : ℕ} → v ≤ largest → RunSoFar s v v 0 s
unfolding value
running_none {s} {v} l =
    record { front = []; ends = refl; digits = []; all = tt; rest_is = refl; many = refl; is = omega arith; low = l; fewer = omega arith }

module _ {s : List ℕ} {v m count : ℕ} {rest : List ℕ} (w : RunSoFar s v m count rest) where
  -- after one byte more
  next_ends : {x : ℕ} {t : List ℕ} → rest ≡ x ∷ t → s ≡ (w.front ++ (x ∷ [])) ++ t
  next_ends {x} {t} e = ends_after s w.front x t (w.ends ∙ ap (λ (l : List ℕ). w.front ++ l) e)

  pub running_blank : {t : List ℕ} → rest ≡ 32 ∷ t → RunSoFar s v m count t
  running_blank {t} e =
      let l : length rest ≡ length (32 ∷ t) = rw e in
      record {
        front = w.front ++ (32 ∷ []);
        ends = next_ends e;
        digits = w.digits;
        all = w.all;
        rest_is = w.rest_is ∙ rw e (rw (at_blank t));
        many = w.many;
        is = w.is;
        low = w.low;
        fewer = omega (arith, w.fewer);
      }

  pub running_stop : Stopped rest → Ran s v m count rest
  running_stop h = record { run = w; stop = h }

  module _ {x : ℕ} {t : List ℕ} (e : rest ≡ x ∷ t) (low : 48 ≤ x) (high : x ≤ 57) where
    -- the digits with x
    one : List ℕ
    one = w.digits ++ (x ∷ [])

    one_digits : Digits one
    unfolding one
    one_digits = digits_append w.digits (x ∷ []) w.all (low, high, tt)

    one_rest : unblanked s ≡ one ++ unblanked t
    unfolding one
    one_rest = w.rest_is ∙ rw e (rw (at_other x t (λ z. omega arith), append_assoc))

    one_long : length one ≡ length w.digits + 1
    unfolding one
    one_long = length-append w.digits (x ∷ [])

    one_value : m * 10 + (x - 48) ≡ v * 10 ^ length one + value one
    unfolding one value
    one_value =
        let e : value one ≡ value w.digits * 10 + (x - 48) = value_append w.digits (x ∷ []) ∙ omega arith in
        let p : 10 ^ length one ≡ 10 ^ length w.digits * 10 = rw (one_long, add-one) (pow-suc 10 (length w.digits)) in
        rw (e, p) (omega (arith, w.is))

    pub running_digit : m * 10 + (x - 48) ≤ largest → RunSoFar s v (m * 10 + (x - 48)) (count + 1) t
    running_digit b =
        let l : length rest ≡ length (x ∷ t) = rw e in
        record {
          front = w.front ++ (x ∷ []);
          ends = next_ends e;
          digits = one;
          all = one_digits;
          rest_is = one_rest;
          many = omega (arith, w.many, one_long);
          is = one_value;
          low = b;
          fewer = omega (arith, w.fewer);
        }

    pub running_over : largest < m * 10 + (x - 48) → RunTooLarge s v
    running_over b =
        record { digits = one; more = unblanked t; all = one_digits; rest_is = one_rest; high = rw (← one_value) b }
