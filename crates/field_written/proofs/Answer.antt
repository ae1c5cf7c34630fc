-- What is written of an integer, and of a decimal by what rounding answers, as the code has its numbers.
-- Assumes nothing.
use mathlib.Core.Path.{◌≡◌, sym, ◌∙◌}
use mathlib.Core.Bool.{Bool, true, false}
use mathlib.Core.List.{List}
use Prim.Native.Nat.{ℕ, ◌<◌, ◌≤◌}
use borrow.Author.Tests.{lt-ltb, le-ltb}
use lib.ListN.{length, replicate}
use lib.IntN.{ℤ, nat_abs}
use Rattle.buffer.specs.Characters.{asterisk}
use Rattle.number.specs.Limits.{largest}
use Rattle.number.specs.Magnitude.{negative, with_sign}
use Rattle.number.specs.Rounding.{rounded_magnitude, rounded_units, too_large, rounding_answer}
use Rattle.number.specs.declared.TooLarge.{TooLarge}
use Rattle.std.specs.Prelude.{Ok, Err}
use Rattle.number.proofs.RoundingLaws.{units_of, large_of}
use Rattle.number.proofs.SignLaws.{nat_abs_with}
use Rattle.settings.specs.declared.SignSetting.{SignSetting}
use Rattle.field_written.specs.Numeral.{Numeric, F}
use Rattle.field_written.specs.declared.Sign.{Sign}
use Rattle.field_written.specs.Written.{sign_if, fewest_columns, field_text, field, starred, put_decimal, decimal_part}
use Rattle.field_written.proofs.Cases.{stars}

-- ---- the field of n by its sign and magnitude, and the columns that it needs

module _ (g : SignSetting) (f : Numeric) (w : ℕ) (n : ℤ) {sign : Sign} {m need : ℕ} (hs : sign ≡ sign_if g (negative n)) (hm : m ≡ nat_abs n) (hn : need ≡ fewest_columns f sign m) where
  needs : fewest_columns f (sign_if g (negative n)) (nat_abs n) ≡ need
  needs = sym (hn ∙ rw (hs, hm))

  pub number_starred : w < need → (true ≡ starred g f w n) × (replicate w asterisk ≡ field g f w n)
  unfolding starred field
  number_starred h = (
    sym (lt-ltb w (fewest_columns f (sign_if g (negative n)) (nat_abs n)) (rw needs h)),
    sym (stars f w (sign_if g (negative n)) (nat_abs n) (rw needs h)),
  )

  pub number_shown : need ≤ w → (false ≡ starred g f w n) × (field_text f w sign m ≡ field g f w n)
  unfolding starred field
  number_shown h = (
    sym (le-ltb w (fewest_columns f (sign_if g (negative n)) (nat_abs n)) (rw needs h)),
    rw (hs, hm),
  )

-- ---- a decimal

module _ (g : SignSetting) (w d : ℕ) (u : ℤ) (s : ℕ) {m : ℕ} (hm : m ≡ nat_abs u) where
  -- the rounded units are v with its sign
  rounds : {v : ℕ} {below : Bool} → rounding_answer m s d ≡ Ok v → below ≡ negative u → (rounded_units u s d ≡ with_sign below v) × (too_large u s d ≡ false)
  unfolding too_large rounded_units
  rounds {v} {below} q f =
      let n = units_of m s d q in
      let k : rounded_magnitude (nat_abs u) s d ≡ v = rw (← hm) n.0 in
      (rw (k, f), simp (k, nat_abs_with, le-ltb largest v n.1))

  module _ {v need : ℕ} {below : Bool} {sign : Sign} (q : rounding_answer m s d ≡ Ok v) (f : below ≡ negative u) (e : sign ≡ sign_if g (negative (with_sign below v))) (hn : need ≡ fewest_columns (F d) sign v) where
    pub decimal_starred : w < need → (Ok true ≡ put_decimal g w d u s) × ((part : List ℕ) → length part ≡ w → replicate w asterisk ≡ decimal_part g part d u s)
    unfolding put_decimal decimal_part
    decimal_starred h =
        let r = rounds q f in
        let k = number_starred g (F d) w (with_sign below v) e (sym (nat_abs_with below v)) hn h in
        (simp (r.1, r.0, sym k.0), λ part l. rw (r.1, r.0, l, ← k.1))

    pub decimal_shown : need ≤ w → (Ok false ≡ put_decimal g w d u s) × ((part : List ℕ) → length part ≡ w → field_text (F d) w sign v ≡ decimal_part g part d u s)
    unfolding put_decimal decimal_part
    decimal_shown h =
        let r = rounds q f in
        let k = number_shown g (F d) w (with_sign below v) e (sym (nat_abs_with below v)) hn h in
        (simp (r.1, r.0, sym k.0), λ part l. rw (r.1, r.0, l, ← k.1))

  pub decimal_large : {e : TooLarge} → rounding_answer m s d ≡ Err e → (Err e ≡ put_decimal g w d u s) × ((part : List ℕ) → part ≡ decimal_part g part d u s)
  unfolding put_decimal decimal_part rounded_units too_large
  decimal_large q =
      let l : largest < rounded_magnitude (nat_abs u) s d = rw (← hm) (large_of m s d q) in
      (simp (nat_abs_with, lt-ltb largest (rounded_magnitude (nat_abs u) s d) l), λ part. simp (nat_abs_with, lt-ltb largest (rounded_magnitude (nat_abs u) s d) l))
