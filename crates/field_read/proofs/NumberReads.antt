-- Which fields are read as a number.
-- Assumes nothing.
use mathlib.Core.Path.{◌≡◌, refl, sym, ap, ◌∙◌}
use mathlib.Core.Bool.{Bool, true, false, ◌&&◌, cond}
use mathlib.Core.List.{List, [], ◌∷◌, ◌++◌, append-nil}
use Prim.Native.Nat.{ℕ, suc, ◌≤◌}
use native.Mathlib.Omega.{arith}
use borrow.Author.Tests.{eqb-true, ne_eqb, ltb-true, lt-ltb, leb-true}
use lib.Dec.{eqb, ltb, leb}
use lib.ListN.{length}
use lib.IntN.{ℤ, pos}
use Rattle.buffer.specs.Characters.{plus_sign, minus_sign, decimal_point}
use Rattle.number.specs.Limits.{largest, most_places}
use Rattle.number.specs.Digits.{Digits, all_digits, value}
use Rattle.number.proofs.DigitLaws.{digits_append, all_digits_is, digits_split}
use Rattle.field_written.specs.Numeral.{Numeric, I, F, places, sign_bytes, signed}
use Rattle.field_written.specs.declared.Sign.{Sign}
use Rattle.field_written.specs.declared.Sign.TheVariants.{None as NoSign, Plus, Minus}
use Rattle.field_read.specs.Read.{number, unblanked, sign_of, after_sign, before_point, from_point, number_read, read_digits, read_field, read_units, read_places}
use Rattle.field_read.specs.Promises.{SpellsNumber, nothing_left, without_point, with_point, NumberReadIs}
use Rattle.std.specs.Prelude.{None}
use Rattle.field_read.proofs.Numbers.{number_good, before_digits, from_digits, at_point, before_all, from_all}
use Rattle.field_read.proofs.Cases.{read_nothing, read_some}

-- ---- a field that is read as a number so spells it

-- the number u with q places is what the digits x ++ y make, y after the point
record Made (s : Sign) (p : ℕ) (x y : List ℕ) (u : ℤ) (q : ℕ) : Type 0 where
  some : 1 ≤ length (x ++ y)
  all : Digits (x ++ y)
  few : length y ≤ most_places
  low : value (x ++ y) ≤ largest
  units : signed s (value (x ++ y)) ≡ u
  count : p ≡ q

refused_not_number : {P : Type 0} {u : ℤ} {p : ℕ} → None ≡ number u p → P
refused_not_number e = let z : ◌≡◌ {A = ℕ} 0 1 = cc in absurd (omega arith)

number_made : (s : Sign) (p : ℕ) (x y : List ℕ) (u : ℤ) (q : ℕ) → number_read s p x y ≡ number u q → Made s p x y u q
unfolding number_read
number_made s p x y u q e =
    go (ltb 0 (length (x ++ y))) refl (all_digits (x ++ y)) refl (leb (length y) most_places) refl (leb (value (x ++ y)) largest) refl e
  where
    go : (a : Bool) → ltb 0 (length (x ++ y)) ≡ a → (b : Bool) → all_digits (x ++ y) ≡ b → (c : Bool) → leb (length y) most_places ≡ c → (d : Bool) → leb (value (x ++ y)) largest ≡ d → cond (a && b && c && d) (number (signed s (value (x ++ y))) p) None ≡ number u q → Made s p x y u q
    go true ea true eb true ec true ed f =
        record {
          some = ltb-true 0 (length (x ++ y)) ea;
          all = (all_digits_is (x ++ y)).0 eb;
          few = leb-true (length y) most_places ec;
          low = leb-true (value (x ++ y)) largest ed;
          units = ap read_units f;
          count = ap read_places f;
        }
    go false ea b eb c ec d ed f = refused_not_number f
    go true ea false eb c ec d ed f = refused_not_number f
    go true ea true eb false ec d ed f = refused_not_number f
    go true ea true eb true ec false ed f = refused_not_number f

sign_in : (t : List ℕ) → t ≡ sign_bytes (sign_of t) ++ after_sign t
sign_in [] = refl
sign_in (x ∷ xs) = go (eqb x plus_sign) refl (eqb x minus_sign) refl
  where
    go : (a : Bool) → eqb x plus_sign ≡ a → (b : Bool) → eqb x minus_sign ≡ b → x ∷ xs ≡ sign_bytes (sign_of (x ∷ xs)) ++ after_sign (x ∷ xs)
    go true ea b eb = rw (ea, eqb-true x plus_sign ea)
    go false ea true eb = rw (ea, eb, eqb-true x minus_sign eb)
    go false ea false eb = rw (ea, eb)

-- t has no point, or one that y stands after
data Pointed (t : List ℕ) : Type 0 where
  none : before_point t ≡ t → from_point t ≡ [] → Pointed t
  one : (y : List ℕ) → t ≡ before_point t ++ (decimal_point ∷ y) → from_point t ≡ decimal_point ∷ y → Pointed t

point_in : (t : List ℕ) → Pointed t
unfolding before_point from_point
point_in [] = none refl refl
point_in (x ∷ xs) = go (eqb x decimal_point) refl (point_in xs)
  where
    go : (b : Bool) → eqb x decimal_point ≡ b → Pointed xs → Pointed (x ∷ xs)
    go true e w = one xs (rw (e, eqb-true x decimal_point e)) (rw (e, eqb-true x decimal_point e))
    go false e (none a b) = none (rw (e, a)) (rw (e, b))
    go false e (one y a b) = one y (rw e (ap (λ (r : List ℕ). x ∷ r) a)) (rw (e, b))

module _ (t : List ℕ) (s : Sign) (u : ℤ) (p : ℕ) where
  -- digits without a point
  plain : (f : Numeric) (z : List ℕ) → unblanked t ≡ sign_bytes s ++ z → number_read s (places f) z [] ≡ number u p → SpellsNumber t f u p
  plain f z e h =
      let m : Made s (places f) z [] u p = number_made s (places f) z [] u p h in
      let n : z ++ [] ≡ z = append-nil z in
      rw (← m.units, ← m.count, n) (without_point s z e (rw n at m.some) (rw n at m.all) (rw n at m.low))

  spelled : (f : Numeric) (z : List ℕ) → unblanked t ≡ sign_bytes s ++ z → read_digits f s z ≡ number u p → SpellsNumber t f u p
  spelled I z e h = plain I z e h
  spelled (F d) z e h = go (point_in z)
    where
      go : Pointed z → SpellsNumber t (F d) u p
      go (none a b) = plain (F d) z e (rw (a, b) at h)
      go (one y a b) =
          let k : number_read s (length y) (before_point z) y ≡ number u p = (rw (b, lt-ltb 0 (suc (length y)) (omega arith)) at h) in
          let m : Made s (length y) (before_point z) y u p = number_made s (length y) (before_point z) y u p k in
          let ds = digits_split (before_point z) y m.all in
          rw (← m.units, ← m.count) (with_point s (before_point z) y (e ∙ ap (λ (r : List ℕ). sign_bytes s ++ r) a) m.some ds.0 ds.1 m.few m.low)

read_spelled : (f : Numeric) (t : List ℕ) (u : ℤ) (p : ℕ) → read_field f t ≡ number u p → SpellsNumber t f u p
read_spelled f t u p h = go (unblanked t) refl
  where
    go : (z : List ℕ) → unblanked t ≡ z → SpellsNumber t f u p
    go [] e =
        let k : number (pos 0) (places f) ≡ number u p = read_nothing f t e ∙ h in
        rw (← ap read_units k, ← ap read_places k) (nothing_left e)
    go (x ∷ xs) e =
        spelled t (sign_of (x ∷ xs)) u p f (after_sign (x ∷ xs)) (e ∙ sign_in (x ∷ xs)) (sym (read_some f t x xs e) ∙ h)

-- ---- and what so spells a number is read as it

-- one digit at least, within the limits
good : (s : Sign) (p : ℕ) (x y : List ℕ) → Digits x → Digits y → 1 ≤ length (x ++ y) → length y ≤ most_places → value (x ++ y) ≤ largest → number_read s p x y ≡ number (signed s (value (x ++ y))) p
good s p x y a b n l v =
    number_good s p x y (digits_append x y a b) l v ∙ simp (ne_eqb (length (x ++ y)) 0 (λ e. omega (arith, n)))

plain_read : (f : Numeric) (s : Sign) (x : List ℕ) → Digits x → 1 ≤ length x → value x ≤ largest → read_digits f s x ≡ number (signed s (value x)) (places f)
plain_read f s x a n v = go f
  where
    e : x ++ [] ≡ x
    e = append-nil x

    k : (p : ℕ) → number_read s p x [] ≡ number (signed s (value x)) p
    k p = rw e at (good s p x [] a tt (rw e n) (omega arith) (rw e v))

    go : (f : Numeric) → read_digits f s x ≡ number (signed s (value x)) (places f)
    go I = k 0
    go (F d) = simp (before_all x a, from_all x a) (k d)

point_read : (d : ℕ) (s : Sign) (x y : List ℕ) → Digits x → Digits y → 1 ≤ length (x ++ y) → length y ≤ most_places → value (x ++ y) ≤ largest → read_digits (F d) s (x ++ (decimal_point ∷ y)) ≡ number (signed s (value (x ++ y))) (length y)
point_read d s x y a b n l v =
    let p : before_point (x ++ (46 ∷ y)) ≡ x = before_digits x (46 ∷ y) a ∙ rw (at_point y).0 (append-nil x) in
    let q : from_point (x ++ (46 ∷ y)) ≡ 46 ∷ y = from_digits x (46 ∷ y) a ∙ (at_point y).1 in
    simp (p, q, lt-ltb 0 (suc (length y)) (omega arith)) (good s (length y) x y a b n l v)

-- what follows the sign begins with a digit or the point
sign_read : (f : Numeric) (s : Sign) (t : List ℕ) (c : ℕ) (r : List ℕ) → 46 ≤ c → unblanked t ≡ sign_bytes s ++ (c ∷ r) → read_field f t ≡ read_digits f s (c ∷ r)
sign_read f NoSign t c r h e =
    read_some f t c r e ∙ simp (ne_eqb c 43 (λ q. omega (arith, h)), ne_eqb c 45 (λ q. omega (arith, h)))
sign_read f Plus t c r h e = read_some f t 43 (c ∷ r) e
sign_read f Minus t c r h e = read_some f t 45 (c ∷ r) e

spelled_read : (f : Numeric) (t : List ℕ) (u : ℤ) (p : ℕ) → SpellsNumber t f u p → read_field f t ≡ number u p
spelled_read f t u p (nothing_left e) = sym (read_nothing f t e)
spelled_read f t u p (without_point s [] e n a v) = absurd (omega (arith, n))
spelled_read f t u p (without_point s (c ∷ x) e n a v) = sign_read f s t c x (omega (arith, a.0)) e ∙ plain_read f s (c ∷ x) a n v
spelled_read f t u p (with_point {d} s [] y e n a b l v) = sign_read (F d) s t 46 y (omega arith) e ∙ point_read d s [] y a b n l v
spelled_read f t u p (with_point {d} s (c ∷ x) y e n a b l v) =
    sign_read (F d) s t c (x ++ (46 ∷ y)) (omega (arith, a.0)) e ∙ point_read d s (c ∷ x) y a b n l v

pub number_read_is : NumberReadIs
number_read_is f t u p = (read_spelled f t u p, spelled_read f t u p)
