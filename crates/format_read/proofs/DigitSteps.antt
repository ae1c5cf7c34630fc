-- The digits of a number, one after another.
-- Assumes nothing.
use mathlib.Core.Path.{◌≡◌, refl, ◌∙◌}
use mathlib.Core.Bool.{true}
use mathlib.Core.List.{List}
use Prim.Native.Nat.{ℕ, ◌+◌, ◌-◌, ◌*◌, ◌<◌, ◌≤◌}
use native.Mathlib.Omega.{arith}
use lib.ListN.{length, get_or}
use Rattle.number.specs.Digits.{is_digit}
use Rattle.number.proofs.DigitLaws.{digit_bounds}
use Rattle.format_items.specs.Items.{Items}
use Rattle.format_grammar.specs.Reading.{Use, Mode, Open, State, read_at}
use Rattle.format_grammar.proofs.ReadLaws.{read_step, step_digit}

-- the digits from `at` up to i make the value
pub record DigitsSoFar (s : List ℕ) (at value i : ℕ) : Type 0 where
  pub runs : (u : Use) (l : ℕ) (xs : Items) (q : Open) → read_at s at (State.within (Mode.digits u at 0) l xs q) ≡ read_at s i (State.within (Mode.digits u at value) l xs q)
  pub low : at ≤ i
  pub high : i ≤ length s
  pub few : i ≤ at + 3
  pub small : value < 1000
  pub small2 : i ≤ at + 2 → value < 100
  pub small1 : i ≤ at + 1 → value < 10
  pub small0 : i ≤ at → value < 1

pub digits_more : {s : List ℕ} {at value i : ℕ} → DigitsSoFar s at value i → i < length s → i < at + 3 → (d : ℕ) → d ≡ get_or s i 0 - 48 → is_digit (get_or s i 0) ≡ true
    → DigitsSoFar s at (value * 10 + d) (i + 1)
digits_more {s} {at} {value} {i} f h g d x e =
    let k = digit_bounds (get_or s i 0) e in
    record {
      runs = λ u l xs q. f.runs u l xs q ∙ rw x (read_step s i _ _ h (step_digit u at value i l xs q (get_or s i 0) g k.0 k.1) (λ a b. refl));
      low = omega (arith, f.low);
      high = omega arith;
      few = omega arith;
      small = omega (arith, f.small2 (omega arith), k.1);
      small2 = λ m. omega (arith, f.small1 (omega arith), k.1);
      small1 = λ m. omega (arith, f.small0 (omega arith), k.1);
      small0 = λ m. absurd (omega (arith, f.low));
    }
