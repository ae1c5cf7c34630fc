-- The promises of specs/Promises.antt.
-- Assumes nothing.
use mathlib.Core.Path.{◌≡◌, refl, sym, ap, ◌∙◌, subst}
use mathlib.Core.Logic.{◌↔◌}
use mathlib.Core.Bool.{Bool, true, false, cond}
use mathlib.Core.List.{List, [], ◌∷◌, ◌++◌}
use Prim.Native.Nat.{ℕ, zero, suc, ◌+◌, ◌-◌, ◌*◌, ◌^◌, ◌≤◌, ◌<◌, ◌%◌}
use native.Mathlib.Decide.{dec_le, ℕ_discrete}
use native.Mathlib.Nat.{mod-eq_of_lt, div-add-mod'}
use native.Mathlib.Omega.{arith}
use borrow.Author.Tests.{ltb-true, ltb-false}
use lib.Arith.{digits_div, digits_mod}
use lib.ListN.{length, take, drop, get_or, replicate, length-append, length-replicate, get_or-replicate}
use lib.Seq.{get_or-append-add}
use lib.IntN.{ℤ, pos, negsuc, nat_abs}
use Rattle.buffer.specs.Characters.{blank, asterisk, digit_zero}
use Rattle.buffer.specs.Splice.{splice}
use Rattle.buffer.proofs.Splicing.{splice_same, length_part}
use Rattle.number.specs.Limits.{largest}
use Rattle.number.specs.Digits.{Digits, value, digits_of}
use Rattle.number.specs.Rounding.{Nearest, rounded_units, too_large, too_large_error}
use Rattle.number.proofs.RoundingLaws.{rounded_is, rounded_right}
use Rattle.number.proofs.DigitLaws.{value_none, length_digits, digits_are, value_digits, value_below, value_append, no_zero, digits_cut, digits_unique, digits_exact}
use Rattle.number.specs.Magnitude.{negative}
use Rattle.settings.specs.declared.SignSetting.{SignSetting}
use Rattle.settings.specs.declared.SignSetting.TheVariants.{AfterSS, AfterSP}
use Rattle.field_written.specs.Numeral.{Numeric, I, F, places, point, sign_bytes, signed, layout, Permitted, Numeral, characters, stands_for}
use Rattle.field_written.specs.declared.Sign.{Sign}
use Rattle.field_written.specs.declared.Sign.TheVariants.{None, Plus, Minus}
use Rattle.field_written.specs.Written.{sign_for, most_digits, fewest_digits, numeral_text, field_text, fewest_columns, field, starred, decimal_field, put_decimal, decimal_part, after_decimal, put_refusal, put_starred}
use Rattle.field_written.specs.Promises.{SignIs, FieldLength, StarredIs, StarsExactlyWhen, AsWritten, UnstarredIsNumeral, FieldOnly, DecimalPartOf, DecimalRefusedWhen, DecimalRefusedLeaves, DecimalStarsExactlyWhen, DecimalStarred, DecimalShown}
use Rattle.number.specs.declared.TooLarge.{TooLarge}
use Rattle.std.specs.Prelude.{Result, Ok, Err}
use Rattle.field_written.proofs.Fewest.{whole_part, Fewest, gone, kept, fewest_cases, most_zero, most_of_zero, most_as, most_holds, most_pos, fewest_holds, fewest_least}
use Rattle.field_written.proofs.Cases.{beside, length_numeral, shown_text, columns_are, stars, with_most, with_fewest}

-- ---- signs

-- the sign of n with its magnitude makes n
stands_as : (g : SignSetting) (n : ℤ) → signed (sign_for g n) (nat_abs n) ≡ n
stands_as AfterSS (pos m) = refl
stands_as AfterSS (negsuc m) = refl
stands_as AfterSP (pos m) = refl
stands_as AfterSP (negsuc m) = refl

-- and the setting permits it
permits : (g : SignSetting) (n : ℤ) (x y : List ℕ) → value (x ++ y) ≡ nat_abs n → Permitted g (sign_for g n) x y
permits AfterSS n x y v = tt
permits AfterSP (pos m) x y v = λ e. refl
permits AfterSP (negsuc m) x y v = λ e. let k = rw v at e in let z : ⊥ = cc in absurd z

-- a sign makes the magnitude of what it makes
magnitude_made : (n : ℤ) (s : Sign) (v : ℕ) → signed s v ≡ n → nat_abs n ≡ v
magnitude_made n None v e = rw (← e) refl
magnitude_made n Plus v e = rw (← e) refl
magnitude_made n Minus zero e = rw (← e) refl
magnitude_made n Minus (suc v) e = rw (← e) refl

-- any sign that makes n, and is permitted, is as long at least
sign_needed : (g : SignSetting) (n : ℤ) (s : Sign) (x y : List ℕ) (v : ℕ) → value (x ++ y) ≡ v → Permitted g s x y → signed s v ≡ n → length (sign_bytes (sign_for g n)) ≤ length (sign_bytes s)
sign_needed AfterSS n None x y v q p e = rw (← e) (omega arith)
sign_needed AfterSS n Plus x y v q p e = rw (← e) (omega arith)
sign_needed AfterSS n Minus x y zero q p e = rw (← e) (omega arith)
sign_needed AfterSS n Minus x y (suc v) q p e = rw (← e) (omega arith)
sign_needed AfterSP n None x y v q p e = let k = p refl in let z : ⊥ = cc in absurd z
sign_needed AfterSP n Plus x y v q p e = rw (← e) (omega arith)
sign_needed AfterSP n Minus x y zero q p e = let k = (rw q at p) refl in let z : ⊥ = cc in absurd z
sign_needed AfterSP n Minus x y (suc v) q p e = rw (← e) (omega arith)

pub sign_is : SignIs
sign_is (pos m) = (
  λ g.
      (λ e. no_minus g e, λ e. let z : ⊥ = cc in absurd z),
  λ e. (refl, refl),
)
  where
    no_minus : (g : SignSetting) → sign_for g (pos m) ≡ Minus → negative (pos m) ≡ true
    no_minus AfterSS e = let z : ⊥ = cc in absurd z
    no_minus AfterSP e = let z : ⊥ = cc in absurd z
sign_is (negsuc m) = (λ g. (λ e. refl, λ e. refl), λ e. let z : ⊥ = cc in absurd z)

-- ---- a field that is not starred

value_numeral : (f : Numeric) (k m : ℕ) → whole_part f m < 10 ^ k → value (digits_of k (whole_part f m) ++ digits_of (places f) m) ≡ m
value_numeral f k m h =
    value_append (digits_of k (whole_part f m)) (digits_of (places f) m)
    ∙ rw (length_digits (places f) m, value_digits k (whole_part f m), value_digits (places f) m, mod-eq_of_lt h) (div-add-mod' m (10 ^ places f))

length_shown : (f : Numeric) (w : ℕ) (s : Sign) (k m : ℕ) → beside f s + k ≤ w → length (shown_text f w s k m) ≡ w
length_shown f w s k m h = simp (length-append, length-replicate, length_numeral) (omega arith)

module _ (g : SignSetting) (f : Numeric) (w : ℕ) (n : ℤ) where
  fits : starred g f w n ≡ false → beside f (sign_for g n) + fewest_digits f (nat_abs n) ≤ w
  unfolding starred
  fits e = omega (arith, columns_are f w (sign_for g n) (nat_abs n), ltb-false w (fewest_columns f (sign_for g n) (nat_abs n)) e)

  narrow : starred g f w n ≡ true → w < fewest_columns f (sign_for g n) (nat_abs n)
  unfolding starred
  narrow e = ltb-true w (fewest_columns f (sign_for g n) (nat_abs n)) e

-- the digits before the point that a field shows
record Shown (f : Numeric) (w : ℕ) (s : Sign) (m : ℕ) : Type 0 where
  k : ℕ
  holds : whole_part f m < 10 ^ k
  some : 0 < k + places f
  room : beside f s + k ≤ w
  is : field_text f w s m ≡ shown_text f w s k m
  no_lead : (rest : List ℕ) → digits_of k (whole_part f m) ≡ digit_zero ∷ rest → rest ≡ []
  free : k ≡ 0 → w - beside f s - k ≡ 0

-- they have no zero in front, but that of an integer part 0
most_lead : (f : Numeric) (m : ℕ) (rest : List ℕ) → digits_of (most_digits f m) (whole_part f m) ≡ digit_zero ∷ rest → rest ≡ []
unfolding most_digits
most_lead f m rest e = no_zero (whole_part f m) rest e

fewest_lead : (f : Numeric) (m : ℕ) (rest : List ℕ) → digits_of (fewest_digits f m) (whole_part f m) ≡ digit_zero ∷ rest → rest ≡ []
unfolding digits_of
fewest_lead f m rest e = go (fewest_cases f m)
  where
    go : Fewest f m → rest ≡ []
    go (gone z q p) =
        let h : [] ≡ digit_zero ∷ rest = ap (λ (k : ℕ). digits_of k (whole_part f m)) (sym z) ∙ e in
        let y : ◌≡◌ {A = ℕ} 0 1 = cc in
        absurd (omega arith)
    go (kept q k) = most_lead f m rest (ap (λ (k : ℕ). digits_of k (whole_part f m)) (sym q) ∙ e)

shown : (g : SignSetting) (f : Numeric) (w : ℕ) (n : ℤ) → starred g f w n ≡ false → Shown f w (sign_for g n) (nat_abs n)
shown g f w n e =
    let m : ℕ = nat_abs n in
    let s : Sign = sign_for g n in
    elim (dec_le (beside f s + most_digits f m) w) [
      | yes h ↦
          record {
            k = most_digits f m;
            holds = most_holds f m;
            some = omega (arith, most_pos f m);
            room = h;
            is = with_most f w s m refl h;
            no_lead = most_lead f m;
            free = λ z. omega (arith, most_pos f m);
          }
      | no h ↦
          record {
            k = fewest_digits f m;
            holds = (fewest_holds f m).0;
            some = (fewest_holds f m).1;
            room = fits g f w n e;
            is = with_fewest f w s m refl (fits g f w n e) (omega arith);
            no_lead = fewest_lead f m;
            free = λ z. omega (arith, most_zero f m z);
          }
    ]

-- with blanks up to the width they make a numeral as the rules have it
pub unstarred_is_numeral : UnstarredIsNumeral
unfolding field numeral_text
unstarred_is_numeral g f w n e =
    let m : ℕ = nat_abs n in
    let s : Sign = sign_for g n in
    let d = shown g f w n e in
    let k : ℕ = d.k in
    let whole : List ℕ = digits_of k (whole_part f m) in (
      record {
        blanks = w - beside f s - k;
        sign = s;
        whole = whole;
        fraction = digits_of (places f) m;
        whole_digits = digits_are k (whole_part f m);
        fraction_digits = digits_are (places f) m;
        exactly = length_digits (places f) m;
        some = rw (length_digits k (whole_part f m), length_digits (places f) m) d.some;
        permitted = permits g n whole (digits_of (places f) m) (value_numeral f k m d.holds);
        width = length_shown f w s k m d.room;
      },
      sym d.is,
      record {
        stands = rw (value_numeral f k m d.holds) (stands_as g n);
        signed_so = refl;
        no_leading_zero = d.no_lead;
        zero_if_free = λ z. d.free (sym (length_digits k (whole_part f m)) ∙ ap length z);
      },
    )

-- ---- the parts of a numeral

-- by the magnitude that it stands for
record Parts (g : SignSetting) (f : Numeric) (w : ℕ) (m : ℕ) (t : Numeral g f w) : Type 0 where
  whole_value : value t.whole ≡ whole_part f m
  whole_is : t.whole ≡ digits_of (length t.whole) (whole_part f m)
  fraction_is : t.fraction ≡ digits_of (places f) m

parts : {g : SignSetting} {f : Numeric} {w : ℕ} (m : ℕ) (t : Numeral g f w) → m ≡ value (t.whole ++ t.fraction) → Parts g f w m t
parts {g} {f} {w} m t e =
    let low : value t.fraction < 10 ^ places f = rw (← t.exactly) (value_below t.fraction t.fraction_digits) in
    let v : m ≡ value t.whole * 10 ^ places f + value t.fraction = e ∙ value_append t.whole t.fraction ∙ rw t.exactly in
    let q : whole_part f m ≡ value t.whole = rw v (digits_div (value t.whole) low) in
    let r : m % 10 ^ places f ≡ value t.fraction = rw v (digits_mod (value t.whole) low) in
    record {
      whole_value = sym q;
      whole_is = sym (rw q (digits_unique t.whole t.whole_digits));
      fraction_is = sym (sym (digits_cut (places f) m) ∙ rw (r, ← t.exactly) (digits_unique t.fraction t.fraction_digits));
    }

-- ---- every numeral is as long as the shortest at least

no_shorter : {g : SignSetting} {f : Numeric} {w : ℕ} (n : ℤ) (t : Numeral g f w) → stands_for t ≡ n → fewest_columns f (sign_for g n) (nat_abs n) ≤ w
unfolding beside
no_shorter {g} {f} {w} n t e =
    let m : ℕ = nat_abs n in
    let v : ℕ = value (t.whole ++ t.fraction) in
    let q : whole_part f m ≡ value t.whole = sym (parts m t (magnitude_made n t.sign v e)).whole_value in
    let k : fewest_digits f m ≤ length t.whole =
    fewest_least f m (length t.whole) (rw q (value_below t.whole t.whole_digits)) (omega (arith, t.some, t.exactly)) in
    let l = simp (length-append, length-replicate) at t.width in
    omega (arith, sign_needed g n t.sign t.whole t.fraction v refl t.permitted e, t.exactly, columns_are f w (sign_for g n) m)

-- ---- asterisks

starred_stars : (g : SignSetting) (f : Numeric) (w : ℕ) (n : ℤ) → starred g f w n ≡ true → field g f w n ≡ replicate w asterisk
unfolding field
starred_stars g f w n e = stars f w (sign_for g n) (nat_abs n) (narrow g f w n e)

-- the byte after blanks and sign is a digit or a point, and no asterisk
no_asterisk : (f : Numeric) (x y : List ℕ) → Digits x → Digits y → 0 < length x + length y → get_or (x ++ (point f ++ y)) 0 0 ≡ asterisk → ⊥
no_asterisk f (a ∷ x) y h g l e = omega arith
no_asterisk I [] [] h g l e = omega arith
no_asterisk I [] (b ∷ y) h g l e = omega arith
no_asterisk (F d) [] y h g l e = omega arith

not_stars : {g : SignSetting} {f : Numeric} {w : ℕ} (t : Numeral g f w) → characters t ≡ replicate w asterisk → ⊥
not_stars {g} {f} {w} t e =
    let p : List ℕ = replicate t.blanks blank in
    let q : List ℕ = sign_bytes t.sign in
    let r : List ℕ = t.whole ++ (point f ++ t.fraction) in
    let l = simp length-append at t.width in
    let k : ℕ = length p + (length q + 0) in
    let b : k < w = omega (arith, t.some) in
    let first : get_or (p ++ (q ++ r)) k 0 ≡ get_or r 0 0 = rw (get_or-append-add p (q ++ r) (length q + 0) 0) (get_or-append-add q r 0 0) in
    no_asterisk f t.whole t.fraction t.whole_digits t.fraction_digits t.some
    (sym first ∙ ap (λ (x : List ℕ). get_or x k 0) e ∙ get_or-replicate w k asterisk 0 b)

-- ---- no other numeral is written so

value_zero : value (digit_zero ∷ []) ≡ 0
unfolding value
value_zero = refl

same_layout : (f : Numeric) {b b' : ℕ} {s s' : Sign} {x x' y y' : List ℕ} → b ≡ b' → s ≡ s' → x ≡ x' → y ≡ y' → layout f b s x y ≡ layout f b' s' x' y'
same_layout f p q r z = rw (p, q, r, z)

module _ (g : SignSetting) (f : Numeric) (w : ℕ) (n : ℤ) (t : Numeral g f w) (a : AsWritten g f w n t) where
  at_parts : Parts g f w (nat_abs n) t
  at_parts = parts (nat_abs n) t (magnitude_made n t.sign (value (t.whole ++ t.fraction)) a.stands)

  columns : t.blanks + (beside f (sign_for g n) + length t.whole) ≡ w
  unfolding beside
  columns =
      let l = simp (length-append, length-replicate) at t.width in
      omega (arith, t.exactly, ap (λ (s : Sign). length (sign_bytes s)) a.signed_so)

  text_is : characters t ≡ shown_text f w (sign_for g n) (length t.whole) (nat_abs n)
  unfolding numeral_text
  text_is =
      let b : t.blanks ≡ w - beside f (sign_for g n) - length t.whole = omega (arith, columns) in
      same_layout f b a.signed_so at_parts.whole_is at_parts.fraction_is

  digits_shown : field_text f w (sign_for g n) (nat_abs n) ≡ shown_text f w (sign_for g n) (length t.whole) (nat_abs n)
  digits_shown = go t.whole refl
    where
      m : ℕ
      m = nat_abs n

      s : Sign
      s = sign_for g n

      most_shown : length t.whole ≡ most_digits f m → field_text f w s m ≡ shown_text f w s (length t.whole) m
      most_shown q = with_most f w s m q (omega (arith, columns))

      go : (x : List ℕ) → t.whole ≡ x → field_text f w s m ≡ shown_text f w s (length t.whole) m
      go [] e =
          let k : length t.whole ≡ 0 = ap length e in
          let q : whole_part f m ≡ 0 = sym at_parts.whole_value ∙ ap value e ∙ value_none in
          let few : fewest_digits f m ≤ 0 = fewest_least f m 0 (rw q (omega arith)) (omega (arith, t.some, t.exactly)) in
          with_fewest f w s m (omega arith) (omega (arith, columns)) (omega (arith, columns, most_of_zero f m q, a.zero_if_free e))
      go (c ∷ rest) e = elim (ℕ_discrete c digit_zero) [
        | yes z ↦
            (let r : rest ≡ [] = a.no_leading_zero rest (e ∙ rw z) in
            let x : t.whole ≡ digit_zero ∷ [] = e ∙ rw (z, r) in
            let v : value t.whole ≡ 0 = ap value x ∙ value_zero in
            most_shown (ap length x ∙ sym (most_of_zero f m (sym at_parts.whole_value ∙ v))))
        | no z ↦
            most_shown (ap length e ∙ sym (digits_exact c rest (subst Digits e t.whole_digits) z) ∙ most_as f m (ap value (sym e) ∙ at_parts.whole_value))
      ]

pub field_only : FieldOnly
unfolding field
field_only g f w n t a = text_is g f w n t a ∙ sym (digits_shown g f w n t a)

pub field_length : FieldLength
unfolding field
field_length g f w n = go (starred g f w n) refl
  where
    go : (b : Bool) → starred g f w n ≡ b → length (field g f w n) ≡ w
    go true e = rw (starred_stars g f w n e) (length-replicate w asterisk)
    go false e =
        let d = shown g f w n e in
        ap length d.is ∙ length_shown f w (sign_for g n) d.k (nat_abs n) d.room

pub starred_is : StarredIs
starred_is g f w n = (starred_stars g f w n, λ e. go (starred g f w n) refl e)
  where
    go : (b : Bool) → starred g f w n ≡ b → field g f w n ≡ replicate w asterisk → starred g f w n ≡ true
    go true q e = q
    go false q e =
        let t = unstarred_is_numeral g f w n q in
        absurd (not_stars t.0 (t.1 ∙ e))

pub stars_exactly_when : StarsExactlyWhen
stars_exactly_when g f w n = go (starred g f w n) refl
  where
    go : (b : Bool) → starred g f w n ≡ b → (field g f w n ≡ replicate w asterisk) ↔ ((t : Numeral g f w) → stands_for t ≡ n → ⊥)
    go true e = ((λ _ t q. omega (arith, no_shorter n t q, narrow g f w n e)), (λ _. starred_stars g f w n e))
    go false e =
        let t = unstarred_is_numeral g f w n e in
        ((λ q. absurd (not_stars t.0 (t.1 ∙ q))), (λ k. absurd (k t.0 t.2.stands)))

-- ---- decimals, by the answer

pub data Case (g : SignSetting) (w d : ℕ) (u : ℤ) (s : ℕ) : Type 0 where
  large : too_large u s d ≡ true → put_decimal g w d u s ≡ Err too_large_error → Case g w d u s
  narrow_case : too_large u s d ≡ false → starred g (F d) w (rounded_units u s d) ≡ true → put_decimal g w d u s ≡ Ok true → Case g w d u s
  wide_case : too_large u s d ≡ false → starred g (F d) w (rounded_units u s d) ≡ false → put_decimal g w d u s ≡ Ok false → Case g w d u s

pub case_of : (g : SignSetting) (w d : ℕ) (u : ℤ) (s : ℕ) → Case g w d u s
unfolding put_decimal
case_of g w d u s = go (too_large u s d) (starred g (F d) w (rounded_units u s d)) refl refl
  where
    go : (a b : Bool) → too_large u s d ≡ a → starred g (F d) w (rounded_units u s d) ≡ b → Case g w d u s
    go true b p q = large p (rw p)
    go false true p q = narrow_case p q (rw (p, q))
    go false false p q = wide_case p q (rw (p, q))

large_units : (u : ℤ) (s d : ℕ) → too_large u s d ≡ true → largest < nat_abs (rounded_units u s d)
unfolding too_large
large_units u s d e = ltb-true largest (nat_abs (rounded_units u s d)) e

pub small_units : (u : ℤ) (s d : ℕ) → too_large u s d ≡ false → nat_abs (rounded_units u s d) ≤ largest
unfolding too_large
small_units u s d e = ltb-false largest (nat_abs (rounded_units u s d)) e

-- what an answer does not say
pub clash {ℓ} : {A : Type ℓ} {x : ℕ} {p q : Result Bool TooLarge} (f : Result Bool TooLarge → ℕ) → q ≡ p → f q ≡ x → (f p ≡ x → ⊥) → A
clash f e h n = absurd (n (sym (ap f e) ∙ h))

pub decimal_part_of : DecimalPartOf
unfolding after_decimal decimal_part
decimal_part_of g buffer at w d u s h = go (too_large u s d)
  where
    go : (b : Bool) → cond b buffer (splice buffer at (decimal_field g w d u s)) ≡ splice buffer at (cond b (take w (drop at buffer)) (decimal_field g (length (take w (drop at buffer))) d u s))
    go true = sym (splice_same buffer at w h)
    go false = rw (length_part buffer at w h)

pub decimal_refused_when : DecimalRefusedWhen
decimal_refused_when g w d u s = go (case_of g w d u s)
  where
    accepted : too_large u s d ≡ false → ((r : ℤ) → Nearest u s d r → nat_abs r ≤ largest → ⊥) → ⊥
    accepted p k = k (rounded_units u s d) (rounded_right u s d) (small_units u s d p)

    go : Case g w d u s → (put_refusal (put_decimal g w d u s) ≡ 11) ↔ ((r : ℤ) → Nearest u s d r → nat_abs r ≤ largest → ⊥)
    go (large p e) = (
      (λ _ r n l. omega (arith, large_units u s d p, ap nat_abs ((rounded_is u s d r).0 n))),
      (λ _. ap put_refusal e),
    )
    go (narrow_case p q e) = ((λ h. clash put_refusal e h (λ z. omega arith)), (λ k. absurd (accepted p k)))
    go (wide_case p q e) = ((λ h. clash put_refusal e h (λ z. omega arith)), (λ k. absurd (accepted p k)))

pub decimal_refused_leaves : DecimalRefusedLeaves
unfolding after_decimal
decimal_refused_leaves g buffer at w d u s h = go (case_of g w d u s)
  where
    go : Case g w d u s → after_decimal g buffer at w d u s ≡ buffer
    go (large p e) = rw p
    go (narrow_case p q e) = clash put_refusal e h (λ z. omega arith)
    go (wide_case p q e) = clash put_refusal e h (λ z. omega arith)

pub decimal_stars_exactly_when : DecimalStarsExactlyWhen
decimal_stars_exactly_when g w d u s h = go (case_of g w d u s)
  where
    r : ℤ
    r = rounded_units u s d

    go : Case g w d u s → (put_starred (put_decimal g w d u s) ≡ 1) ↔ ((t : Numeral g (F d) w) → Nearest u s d (stands_for t) → ⊥)
    go (large p e) = clash put_refusal e h (λ z. omega arith)
    go (narrow_case p q e) = (
      (λ _ t n. (stars_exactly_when g (F d) w r).0 (starred_stars g (F d) w r q) t ((rounded_is u s d (stands_for t)).0 n)),
      (λ _. ap put_starred e),
    )
    go (wide_case p q e) =
        let t = unstarred_is_numeral g (F d) w r q in (
          (λ z. clash put_starred e z (λ y. omega arith)),
          (λ k. absurd (k t.0 ((rounded_is u s d (stands_for t.0)).1 t.2.stands))),
        )

pub decimal_starred : DecimalStarred
unfolding after_decimal
decimal_starred g buffer at w d u s h = go (case_of g w d u s)
  where
    go : Case g w d u s → after_decimal g buffer at w d u s ≡ splice buffer at (replicate w asterisk)
    go (large p e) = clash put_starred e h (λ z. omega arith)
    go (narrow_case p q e) = rw (p, starred_stars g (F d) w (rounded_units u s d) q)
    go (wide_case p q e) = clash put_starred e h (λ z. omega arith)

pub decimal_shown : DecimalShown
unfolding after_decimal
decimal_shown g buffer at w d u s h k = go (case_of g w d u s)
  where
    go : Case g w d u s → (t : Numeral g (F d) w) × (after_decimal g buffer at w d u s ≡ splice buffer at (characters t)) × (Nearest u s d (stands_for t)) × (AsWritten g (F d) w (stands_for t) t)
    go (large p e) = clash put_refusal e h (λ z. omega arith)
    go (narrow_case p q e) = clash put_starred e k (λ z. omega arith)
    go (wide_case p q e) =
        let t = unstarred_is_numeral g (F d) w (rounded_units u s d) q in
        (t.0, rw (p, ← t.1), (rounded_is u s d (stands_for t.0)).1 t.2.stands, subst (λ (n : ℤ). AsWritten g (F d) w n t.0) (sym t.2.stands) t.2)
