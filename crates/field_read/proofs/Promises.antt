-- The promises of specs/Promises.antt.
-- Assumes nothing.
use mathlib.Core.Path.{◌≡◌, refl, ap, ◌∙◌}
use mathlib.Core.Bool.{false}
use mathlib.Core.List.{List, [], ◌∷◌, ◌++◌}
use Prim.Native.Nat.{ℕ, zero, suc, ◌≤◌}
use native.Mathlib.Nat.{not-suc-le-zero}
use native.Mathlib.Omega.{arith}
use lib.ListN.{drop, replicate, length-append}
use lib.IntN.{ℤ, nat_abs}
use Rattle.buffer.specs.Characters.{asterisk}
use Rattle.number.specs.Limits.{largest, most_places}
use Rattle.number.specs.Digits.{value}
use Rattle.number.specs.Rounding.{rounded_units}
use Rattle.number.proofs.DigitLaws.{digits_append}
use Rattle.settings.specs.declared.SignSetting.{SignSetting}
use Rattle.field_written.specs.Numeral.{Numeric, I, F, places, point, sign_bytes, signed, Numeral, characters, stands_for}
use Rattle.field_written.specs.declared.Sign.{Sign}
use Rattle.field_written.specs.declared.Sign.TheVariants.{None as NoSign, Plus, Minus}
use Rattle.field_written.specs.Written.{field, starred, decimal_field, put_refusal, put_starred}
use Rattle.field_written.proofs.Promises.{unstarred_is_numeral, Case, large, narrow_case, wide_case, case_of, clash, small_units}
use Rattle.field_read.specs.Read.{number, unblanked, before_point, from_point, places_read, read_field, read_refusal, read_units, read_places, Gives, shown_units, shown_places}
use Rattle.field_read.specs.Promises.{SpellsNumber, without_point, with_point, NumberReadIs, NumeralReads, IntegerReadsBack, DecimalReadsBack, StarsRefused, LogicalReadIs, LogicalReadsBack, TextReadLength, TextReadsBack}
use Rattle.std.specs.Prelude.{Option, None}
use Rattle.field_read.specs.declared.Number.{Number}
use Rattle.field_read.proofs.Blanks.{unblanked_append, unblanked_blanks, unblanked_digits}
use Rattle.field_read.proofs.Numbers.{number_bad, before_other}
use Rattle.field_read.proofs.Cases.{read_some}
use Rattle.field_read.proofs.NumberReads
use Rattle.field_read.proofs.LetterReads

-- ---- without its blanks a numeral is its sign, digits and point

unblanked_sign : (s : Sign) → unblanked (sign_bytes s) ≡ sign_bytes s
unfolding unblanked
unblanked_sign NoSign = refl
unblanked_sign Plus = refl
unblanked_sign Minus = refl

unblanked_point : (f : Numeric) → unblanked (point f) ≡ point f
unfolding unblanked
unblanked_point I = refl
unblanked_point (F d) = refl

unblanked_numeral : {g : SignSetting} {f : Numeric} {w : ℕ} (t : Numeral g f w) → unblanked (characters t) ≡ sign_bytes t.sign ++ (t.whole ++ (point f ++ t.fraction))
unblanked_numeral {g} {f} t =
    simp (unblanked_append, unblanked_blanks, unblanked_sign, unblanked_point, unblanked_digits t.whole t.whole_digits, unblanked_digits t.fraction t.fraction_digits)

-- ---- and so it spells the number that it stands for

nat_abs_signed : (s : Sign) (m : ℕ) → nat_abs (signed s m) ≡ m
nat_abs_signed NoSign m = refl
nat_abs_signed Plus m = refl
nat_abs_signed Minus zero = refl
nat_abs_signed Minus (suc m) = refl

numeral_spells : (g : SignSetting) (f : Numeric) (w : ℕ) (t : Numeral g f w) → places f ≤ most_places → value (t.whole ++ t.fraction) ≤ largest → SpellsNumber (characters t) f (stands_for t) (places f)
numeral_spells g I w t l h =
    without_point t.sign (t.whole ++ t.fraction) (unblanked_numeral t) (omega (arith, t.some, length-append t.whole t.fraction)) (digits_append t.whole t.fraction t.whole_digits t.fraction_digits) h
numeral_spells g (F d) w t l h =
    rw (← t.exactly) (with_point t.sign t.whole t.fraction (unblanked_numeral t) (omega (arith, t.some, length-append t.whole t.fraction)) t.whole_digits t.fraction_digits (omega (arith, l, t.exactly)) h)

-- ---- the promises

pub number_read_is : NumberReadIs
number_read_is = NumberReads.number_read_is

numeral_read : (g : SignSetting) (f : Numeric) (w : ℕ) (t : Numeral g f w) → places f ≤ most_places → nat_abs (stands_for t) ≤ largest → read_field f (characters t) ≡ number (stands_for t) (places f)
numeral_read g f w t l h =
    let m : value (t.whole ++ t.fraction) ≤ largest = rw (nat_abs_signed t.sign (value (t.whole ++ t.fraction))) at h in
    (number_read_is f (characters t) (stands_for t) (places f)).1 (numeral_spells g f w t l m)

gives : {r : Option Number} {u : ℤ} {p : ℕ} → r ≡ number u p → Gives r u p
gives e = record { accepted = ap read_refusal e; units = ap read_units e; places_read_lem = ap read_places e }

pub numeral_reads : NumeralReads
numeral_reads g f w t l h = gives (numeral_read g f w t l h)

-- a field that is not starred reads as its value
unstarred_reads : (g : SignSetting) (f : Numeric) (w : ℕ) (n : ℤ) → places f ≤ most_places → nat_abs n ≤ largest → starred g f w n ≡ false → Gives (read_field f (field g f w n)) n (places f)
unstarred_reads g f w n l h e =
    let t = unstarred_is_numeral g f w n e in
    let v = t.2.stands in
    rw (← t.1) (gives (numeral_read g f w t.0 l (rw v h) ∙ rw v))

pub integer_reads_back : IntegerReadsBack
integer_reads_back g w n h e = unstarred_reads g I w n (omega arith) h e

pub decimal_reads_back : DecimalReadsBack
decimal_reads_back g w d u s l r k = go (case_of g w d u s)
  where
    go : Case g w d u s → Gives (read_field (F d) (decimal_field g w d u s)) (shown_units u s d) (shown_places u s d)
    go (large p e) = clash put_refusal e r (λ z. omega arith)
    go (narrow_case p q e) = clash put_starred e k (λ z. omega arith)
    go (wide_case p q e) = unstarred_reads g (F d) w (rounded_units u s d) l (small_units u s d p) q

unblanked_stars : (w : ℕ) → unblanked (replicate w asterisk) ≡ replicate w asterisk
unfolding unblanked
unblanked_stars zero = refl
unblanked_stars (suc w) = rw (unblanked_stars w)

stars_read : (f : Numeric) (w : ℕ) → read_field f (replicate (suc w) asterisk) ≡ None
stars_read I w =
    read_some I (replicate (suc w) asterisk) asterisk (replicate w asterisk) (unblanked_stars (suc w))
    ∙ number_bad NoSign 0 (asterisk ∷ replicate w asterisk) [] [] asterisk (replicate w asterisk ++ []) refl refl
stars_read (F d) w =
    let t : List ℕ = asterisk ∷ replicate w asterisk in
    let y : List ℕ = drop 1 (from_point t) in
    read_some (F d) (replicate (suc w) asterisk) asterisk (replicate w asterisk) (unblanked_stars (suc w))
    ∙ number_bad NoSign (places_read d t) (before_point t) y [] asterisk (before_point (replicate w asterisk) ++ y) (ap (λ (x : List ℕ). x ++ y) (before_other asterisk (replicate w asterisk) (λ q. omega arith))) refl

pub stars_refused : StarsRefused
stars_refused f zero h = absurd (not-suc-le-zero h)
stars_refused f (suc w) h = ap read_refusal (stars_read f w)

-- ---- logicals and texts

pub logical_read_is : LogicalReadIs
logical_read_is = LetterReads.logical_read_is

pub logical_reads_back : LogicalReadsBack
logical_reads_back = LetterReads.logical_reads_back

pub text_read_length : TextReadLength
text_read_length = LetterReads.text_read_length

pub text_reads_back : TextReadsBack
text_reads_back = LetterReads.text_reads_back
