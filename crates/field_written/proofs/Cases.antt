-- The numeric field by cases on its width.
-- Assumes nothing.
use mathlib.Core.Path.{◌≡◌, refl, sym, ◌∙◌}
use mathlib.Core.Bool.{Bool, true, false, cond}
use mathlib.Core.List.{List, ◌++◌, append-nil}
use Prim.Native.Nat.{ℕ, ◌+◌, ◌-◌, ◌/◌, ◌^◌, ◌<◌, ◌≤◌}
use native.Mathlib.Nat.{div-one}
use native.Mathlib.Decide.{dec_lt}
use native.Mathlib.Omega.{arith}
use Rattle.std.specs.Prelude.{max}
use borrow.Author.Tests.{le-leb, lt-leb, ltb-true, ltb-false}
use lib.Dec.{ltb}
use lib.ListN.{length, replicate, length-append}
use Rattle.buffer.specs.Characters.{blank, asterisk}
use Rattle.number.specs.Digits.{digits_of, digit_count}
use Rattle.number.proofs.DigitLaws.{length_digits, digit_count_pos}
use Rattle.field_written.specs.Numeral.{Numeric, I, F, places, point, sign_bytes, layout}
use Rattle.field_written.specs.declared.Sign.{Sign}
use Rattle.field_written.specs.Written.{most_digits, fewest_digits, numeral_text, field_text, fewest_columns}
use Rattle.field_written.proofs.Fewest.{most_zero, most_some, fewest_most, fewest_integer, fewest_none, fewest_some}

-- the columns beside the digits before the point
unfoldable pub beside : Numeric → Sign → ℕ
beside f s = length (sign_bytes s) + (length (point f) + places f)

pub length_numeral : (f : Numeric) (s : Sign) (k m : ℕ) → length (numeral_text f s k m) ≡ beside f s + k
unfolding numeral_text beside
length_numeral f s k m = simp (length-append, length_digits) (omega arith)

-- the text in w columns, with k digits before the point
abbrev pub shown_text : Numeric → ℕ → Sign → ℕ → ℕ → List ℕ
shown_text f w s k m = replicate (w - beside f s - k) blank ++ numeral_text f s k m

module _ (f : Numeric) (w : ℕ) (s : Sign) (m : ℕ) where
  pub columns_are : fewest_columns f s m ≡ beside f s + fewest_digits f m
  unfolding fewest_columns
  columns_are = length_numeral f s (fewest_digits f m) m

  pub stars : w < fewest_columns f s m → field_text f w s m ≡ replicate w asterisk
  unfolding field_text
  stars h =
      let a = length_numeral f s (most_digits f m) m in
      let b = length_numeral f s (fewest_digits f m) m in
      let c = columns_are in
      let l = fewest_most f m in
      simp (lt-leb (length (numeral_text f s (most_digits f m) m)) w (omega arith), lt-leb (length (numeral_text f s (fewest_digits f m) m)) w (omega arith))

  pub with_most : {k : ℕ} → k ≡ most_digits f m → beside f s + k ≤ w → field_text f w s m ≡ shown_text f w s k m
  unfolding field_text
  with_most {k} q h =
      let a = length_numeral f s (most_digits f m) m in
      let e : w - length (numeral_text f s (most_digits f m) m) ≡ w - beside f s - k = omega arith in
      simp (le-leb (length (numeral_text f s (most_digits f m) m)) w (omega arith)) (rw (e, q))

  pub with_fewest : {k : ℕ} → k ≡ fewest_digits f m → beside f s + k ≤ w → w < beside f s + most_digits f m → field_text f w s m ≡ shown_text f w s k m
  unfolding field_text
  with_fewest {k} q h g =
      let a = length_numeral f s (most_digits f m) m in
      let b = length_numeral f s (fewest_digits f m) m in
      let e : w - length (numeral_text f s (fewest_digits f m) m) ≡ w - beside f s - k = omega arith in
      simp (lt-leb (length (numeral_text f s (most_digits f m) m)) w (omega arith), le-leb (length (numeral_text f s (fewest_digits f m) m)) w (omega arith))
      (rw (e, q))

-- ---- an integer, as the code has its numbers: a sign of s columns, `need` in all

numeral_integer : (s : Sign) (k m : ℕ) → numeral_text I s k m ≡ sign_bytes s ++ digits_of k m
unfolding numeral_text digits_of
numeral_integer s k m = rw (div-one m) (simp append-nil)

pub integer_need : {s k : ℕ} (sign : Sign) (m : ℕ) → s ≡ length (sign_bytes sign) → k ≡ digit_count m → s + k ≡ fewest_columns I sign m
unfolding beside
integer_need sign m hs hk = omega (arith, columns_are I 0 sign m, (fewest_integer m).0)

module _ {s need : ℕ} (sign : Sign) (m : ℕ) (hs : s ≡ length (sign_bytes sign)) (hn : need ≡ fewest_columns I sign m) where
  digits_need : need ≡ s + digit_count m
  digits_need = hn ∙ sym (integer_need sign m hs refl)

  pub integer_digits : s < need
  integer_digits = omega (arith, digits_need, digit_count_pos m)

  pub integer_shows : {w : ℕ} → need ≤ w → field_text I w sign m ≡ replicate (w - need) blank ++ (sign_bytes sign ++ digits_of (need - s) m)
  unfolding beside
  integer_shows {w} h =
      let k : ℕ = need - s in
      let q : k ≡ most_digits I m = omega (arith, digits_need, (fewest_integer m).1) in
      let e : w - (length (sign_bytes sign) + 0) - k ≡ w - need = omega (arith, digits_need) in
      with_most I w sign m q (omega (arith, digits_need)) ∙ rw (e, numeral_integer sign k m)

-- ---- a decimal

pub decimal_need : {s k : ℕ} (sign : Sign) (d m : ℕ) → s ≡ length (sign_bytes sign) → k ≡ digit_count m → s + 1 + max k d ≡ fewest_columns (F d) sign m
unfolding beside
decimal_need {s} {k} sign d m hs hk =
    elim (dec_lt d k) [
      | yes h ↦ omega (arith, columns_are (F d) 0 sign m, fewest_some d m (omega arith))
      | no h ↦ omega (arith, columns_are (F d) 0 sign m, fewest_none d m (omega arith))
    ]

-- sign, point and fraction are among them
pub decimal_rest : {s need : ℕ} (sign : Sign) (d m : ℕ) → s ≡ length (sign_bytes sign) → need ≡ fewest_columns (F d) sign m → s + 1 + d ≤ need
unfolding beside
decimal_rest sign d m hs hn = omega (arith, columns_are (F d) 0 sign m)

-- the code's numbers: the sign's columns s, the columns needed, and k digits before the point
pub record Counted (w : ℕ) (sign : Sign) (d m s need k : ℕ) : Type 0 where
  pub columns : s ≡ length (sign_bytes sign)
  pub needed : need ≡ fewest_columns (F d) sign m
  pub room : need ≤ w
  pub shown : k ≡ cond (ltb 0 (need - (s + 1 + d))) (need - (s + 1 + d)) (cond (ltb 0 (w - need)) 1 0)

-- they show the field
pub record Showing (w : ℕ) (sign : Sign) (d m s k : ℕ) : Type 0 where
  pub fits : s + 1 + d + k ≤ w
  pub is : field_text (F d) w sign m ≡ replicate (w - (s + 1 + d) - k) blank ++ layout (F d) 0 sign (digits_of k (m / 10 ^ d)) (digits_of d m)

module _ {w : ℕ} {sign : Sign} {d m s need k : ℕ} (n : Counted w sign d m s need k) where
  beside_decimal : beside (F d) sign ≡ s + 1 + d
  unfolding beside
  beside_decimal = omega (arith, n.columns)

  few_is : need - (s + 1 + d) ≡ fewest_digits (F d) m
  few_is = omega (arith, n.needed, columns_are (F d) w sign m, beside_decimal)

  need_is : need ≡ s + 1 + d + fewest_digits (F d) m
  need_is = omega (arith, n.needed, columns_are (F d) w sign m, beside_decimal)

  text_is : shown_text (F d) w sign k m ≡ replicate (w - (s + 1 + d) - k) blank ++ layout (F d) 0 sign (digits_of k (m / 10 ^ d)) (digits_of d m)
  unfolding numeral_text
  text_is = rw beside_decimal

  showing : s + 1 + d + k ≤ w → field_text (F d) w sign m ≡ shown_text (F d) w sign k m → Showing w sign d m s k
  showing r e = record { fits = r; is = e ∙ text_is }

  pub decimal_shows : Showing w sign d m s k
  decimal_shows = go (ltb 0 (need - (s + 1 + d))) (ltb 0 (w - need)) refl refl n.shown
    where
      go : (a b : Bool) → ltb 0 (need - (s + 1 + d)) ≡ a → ltb 0 (w - need) ≡ b → k ≡ cond a (need - (s + 1 + d)) (cond b 1 0) → Showing w sign d m s k
      go true b x y e =
          let h = ltb-true 0 (need - (s + 1 + d)) x in
          let q : k ≡ fewest_digits (F d) m = e ∙ few_is in
          let r : k ≡ most_digits (F d) m = q ∙ most_some (F d) m (omega (arith, few_is)) in
          showing (omega (arith, need_is, n.room)) (with_most (F d) w sign m r (omega (arith, beside_decimal, need_is, n.room)))
      go false true x y e =
          let h = ltb-false 0 (need - (s + 1 + d)) x in
          let g = ltb-true 0 (w - need) y in
          let z : fewest_digits (F d) m ≡ 0 = omega (arith, few_is) in
          let r : k ≡ most_digits (F d) m = e ∙ sym (most_zero (F d) m z) in
          showing (omega (arith, need_is)) (with_most (F d) w sign m r (omega (arith, beside_decimal, need_is)))
      go false false x y e =
          let h = ltb-false 0 (need - (s + 1 + d)) x in
          let g = ltb-false 0 (w - need) y in
          let q : k ≡ fewest_digits (F d) m = omega (arith, few_is) in
          let o = most_zero (F d) m (omega (arith, few_is)) in
          showing (omega (arith, need_is, n.room)) (with_fewest (F d) w sign m q (omega (arith, beside_decimal, need_is, n.room)) (omega (arith, beside_decimal, need_is)))
