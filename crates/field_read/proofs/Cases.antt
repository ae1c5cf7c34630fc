-- A field read, by what its readers find: the front, and the runs of digits.
-- Assumes nothing.
use mathlib.Core.Path.{◌≡◌, refl, sym, ap, subst, ◌∙◌}
use mathlib.Core.Bool.{cond}
use mathlib.Core.List.{List, [], ◌∷◌, ◌++◌, append-nil, append_assoc}
use Prim.Native.Nat.{ℕ, suc, ◌+◌, ◌*◌, ◌^◌, ◌<◌, ◌≤◌}
use native.Mathlib.Nat.{zero-add}
use native.Mathlib.Omega.{arith}
use borrow.Author.Tests.{ne_eqb, lt-ltb}
use lib.Dec.{eqb}
use lib.ListN.{length, drop, length-append}
use lib.IntN.{pos}
use Rattle.buffer.specs.Characters.{plus_sign, minus_sign}
use Rattle.number.specs.Digits.{Digits, value}
use Rattle.number.proofs.DigitLaws.{value_none, value_append, digits_append}
use Rattle.field_written.specs.Numeral.{Numeric, I, F, places, signed}
use Rattle.field_written.specs.declared.Sign.{Sign}
use Rattle.field_written.specs.declared.Sign.TheVariants.{None as NoSign, Plus, Minus}
use Rattle.field_read.specs.Read.{number, unblanked, sign_of, after_sign, before_point, from_point, number_read, places_read, read_digits, read_field}
use Rattle.field_read.specs.LogicalRead.{after_blanks}
use Rattle.field_read.specs.Steps.{Signed, Ran, RunTooLarge, Stopped}
use Rattle.std.specs.Prelude.{None}
use Rattle.field_read.proofs.Blanks.{at_other, unblanked_none, unblanked_after, blanks_before, ends_after, after_first}
use Rattle.field_read.proofs.Numbers.{number_good, number_bad, number_over, number_long, before_digits, from_digits, before_other, at_point, before_all, from_all}

-- ---- the front

-- nothing left
pub read_nothing : (f : Numeric) (s : List ℕ) → unblanked s ≡ [] → number (pos 0) (places f) ≡ read_field f s
unfolding read_field
read_nothing f s e = rw e

pub read_some : (f : Numeric) (s : List ℕ) (x : ℕ) (t : List ℕ) → unblanked s ≡ x ∷ t → read_field f s ≡ read_digits f (sign_of (x ∷ t)) (after_sign (x ∷ t))
unfolding read_field
read_some f s x t e = rw e (simp (ne_eqb (suc (length t)) 0 (λ q. omega arith)))

pub signed_reads : {s : List ℕ} {sign : Sign} {rest : List ℕ} → Signed s sign rest → (f : Numeric) → read_field f s ≡ read_digits f sign (unblanked rest)
unfolding read_field
signed_reads {s} {sign} {rest} w f =
    let u : List ℕ = unblanked s in
    simp (ne_eqb (length u) 0 (λ e. omega (arith, w.some)))
    (ap (read_digits f (sign_of u)) w.rest_is ∙ ap (λ (x : Sign). read_digits f x (unblanked rest)) (sym w.sign_is))

module _ (s : List ℕ) where
  pub front_nothing : (t : List ℕ) → t ≡ after_blanks s → length t < 1 → unblanked s ≡ []
  front_nothing [] e h = unblanked_after s ∙ rw (← e) (unblanked_none)
  front_nothing (x ∷ t) e h = absurd (omega arith)

  module _ {x : ℕ} {t : List ℕ} (e : after_blanks s ≡ x ∷ t) where
    first : unblanked s ≡ x ∷ unblanked t
    first = unblanked_after s ∙ rw e (at_other x t (after_first s e))

    -- what stands before x and t
    before : List ℕ
    before = (blanks_before s).0

    ends : s ≡ before ++ (x ∷ t)
    unfolding before
    ends = (blanks_before s).1 ∙ ap (λ (l : List ℕ). (blanks_before s).0 ++ l) e

    pub front_plus : x ≡ plus_sign → Signed s Plus t
    front_plus z = record { front = before ++ (x ∷ []); ends = ends_after s before x t ends; some = rw first (omega arith); sign_is = rw (first, z); rest_is = rw (first, z) }

    pub front_minus : x ≡ minus_sign → Signed s Minus t
    front_minus z = record { front = before ++ (x ∷ []); ends = ends_after s before x t ends; some = rw first (omega arith); sign_is = rw (first, z); rest_is = rw (first, z) }

    pub front_none : (x ≡ plus_sign → ⊥) → (x ≡ minus_sign → ⊥) → Signed s NoSign (x ∷ t)
    front_none p m =
        record {
          front = before;
          ends = ends;
          some = rw first (omega arith);
          sign_is = rw first (simp (ne_eqb x 43 p, ne_eqb x 45 m));
          rest_is = rw first (simp (ne_eqb x 43 p, ne_eqb x 45 m) (rw (at_other x t (after_first s e))));
        }

-- ---- a run of digits

-- up to the end of s
run_all : {s : List ℕ} {v sum count : ℕ} {rest : List ℕ} (r : Ran s v sum count rest) → rest ≡ [] → unblanked s ≡ r.run.digits
run_all {s} {v} {sum} {count} {rest} r h = r.run.rest_is ∙ rw (h, unblanked_none) (append-nil r.run.digits)

-- up to a byte that is no digit
run_part : {s : List ℕ} {v sum count : ℕ} {rest : List ℕ} (r : Ran s v sum count rest) → {c : ℕ} {u : List ℕ} → rest ≡ c ∷ u → unblanked s ≡ r.run.digits ++ (c ∷ unblanked u)
run_part {s} {v} {sum} {count} {rest} r {c} {u} h = r.run.rest_is ∙ rw h (rw (at_other c u (subst Stopped h r.stop).0))

-- what the first run makes
pub run_value : {s : List ℕ} {sum count : ℕ} {rest : List ℕ} (r : Ran s 0 sum count rest) → sum ≡ value r.run.digits
run_value r = omega (arith, r.run.is)

sums : (pre ds : List ℕ) {v : ℕ} → v ≡ value pre → value (pre ++ ds) ≡ v * 10 ^ length ds + value ds
sums pre ds h = value_append pre ds ∙ rw h

-- the digits pre stand before the run, and x ++ y are all of them, y after the point
module _ {s : List ℕ} {v : ℕ} (sign : Sign) (p : ℕ) (x y pre : List ℕ) (e : x ++ y ≡ pre ++ unblanked s) (d : Digits pre) (hv : v ≡ value pre) where
  pub run_ended : {sum count : ℕ} {rest : List ℕ} → Ran s v sum count rest → rest ≡ [] → length y ≤ 9 → cond (eqb (length pre + count) 0) None (number (signed sign sum) p) ≡ number_read sign p x y
  run_ended {sum} {count} {rest} r h l =
      let q : x ++ y ≡ pre ++ r.run.digits = e ∙ rw (run_all r h) in
      let v : value (x ++ y) ≡ sum = ap value q ∙ sums pre r.run.digits hv ∙ sym r.run.is in
      let n : length (x ++ y) ≡ length pre + count = ap length q ∙ length-append pre r.run.digits ∙ rw r.run.many in
      sym (number_good sign p x y (rw q (digits_append pre r.run.digits d r.run.all)) l (rw v r.run.low) ∙ rw (v, n))

  pub run_stopped : {sum count : ℕ} {rest : List ℕ} → Ran s v sum count rest → {c : ℕ} {u : List ℕ} → rest ≡ c ∷ u → None ≡ number_read sign p x y
  run_stopped {sum} {count} {rest} r {c} {u} h =
      sym (number_bad sign p x y (pre ++ r.run.digits) c (unblanked u) (e ∙ rw (run_part r h, append_assoc)) (subst Stopped h r.stop).1)

  pub run_over : RunTooLarge s v → None ≡ number_read sign p x y
  run_over r =
      sym (number_over sign p x y (pre ++ r.digits) r.more (e ∙ rw (r.rest_is, append_assoc)) (rw (sums pre r.digits hv) r.high))

-- ---- under I

module _ {s : List ℕ} (sign : Sign) where
  pub whole_ended : {sum count : ℕ} {rest : List ℕ} → Ran s 0 sum count rest → rest ≡ [] → cond (eqb count 0) None (number (signed sign sum) 0) ≡ read_digits I sign (unblanked s)
  whole_ended {sum} {count} {rest} r h =
      let e : cond (eqb (0 + count) 0) None (number (signed sign sum) 0) ≡ number_read sign 0 (unblanked s) [] =
      run_ended {s = s} sign 0 (unblanked s) [] [] (append-nil (unblanked s)) tt (sym value_none) r h (omega arith) in
      rw zero-add at e

  pub whole_stopped : {sum count : ℕ} {rest : List ℕ} → Ran s 0 sum count rest → {c : ℕ} {u : List ℕ} → rest ≡ c ∷ u → None ≡ read_digits I sign (unblanked s)
  whole_stopped r h = run_stopped {s = s} sign 0 (unblanked s) [] [] (append-nil (unblanked s)) tt (sym value_none) r h

  pub whole_over : RunTooLarge s 0 → None ≡ read_digits I sign (unblanked s)
  whole_over r = run_over {s = s} sign 0 (unblanked s) [] [] (append-nil (unblanked s)) tt (sym value_none) r

-- ---- under F, after the point: the digits `whole` stand before it

module _ {s : List ℕ} {v : ℕ} (sign : Sign) (whole : List ℕ) (d : Digits whole) (hv : v ≡ value whole) where
  pub fraction_ended : {sum count places : ℕ} {rest : List ℕ} → count ≡ length whole → Ran s v sum places rest → rest ≡ [] → places ≤ 9 → cond (eqb (count + places) 0) None (number (signed sign sum) places) ≡ number_read sign (length (unblanked s)) whole (unblanked s)
  fraction_ended {sum} {count} {places} {rest} n r h l =
      let t : List ℕ = unblanked s in
      let m : length t ≡ places = ap length (run_all r h) ∙ sym r.run.many in
      rw (n, ← m) (rw (← m) at (run_ended {s = s} sign (length t) whole t whole refl d hv r h (omega arith)))

  pub fraction_long : {sum places : ℕ} {rest : List ℕ} → Ran s v sum places rest → rest ≡ [] → 9 < places → None ≡ number_read sign (length (unblanked s)) whole (unblanked s)
  fraction_long r h l =
      let t : List ℕ = unblanked s in
      sym (number_long sign (length t) whole t (omega (arith, ap length (run_all r h), r.run.many)))

  pub fraction_stopped : {sum places : ℕ} {rest : List ℕ} → Ran s v sum places rest → {c : ℕ} {u : List ℕ} → rest ≡ c ∷ u → None ≡ number_read sign (length (unblanked s)) whole (unblanked s)
  fraction_stopped r h =
      let t : List ℕ = unblanked s in
      run_stopped {s = s} sign (length t) whole t whole refl d hv r h

  pub fraction_over : RunTooLarge s v → None ≡ number_read sign (length (unblanked s)) whole (unblanked s)
  fraction_over r =
      let t : List ℕ = unblanked s in
      run_over {s = s} sign (length t) whole t whole refl d hv r

-- ---- under F: up to the end, up to the point, up to another byte

module _ {s : List ℕ} (sign : Sign) (d : ℕ) where
  pub units_ended : {sum count : ℕ} {rest : List ℕ} → Ran s 0 sum count rest → rest ≡ [] → cond (eqb count 0) None (number (signed sign sum) d) ≡ read_digits (F d) sign (unblanked s)
  units_ended {sum} {count} {rest} r h =
      let ds : List ℕ = r.run.digits in
      let a : cond (eqb (0 + count) 0) None (number (signed sign sum) d) ≡ number_read sign d ds [] =
      run_ended {s = s} sign d ds [] [] (append-nil ds ∙ sym (run_all r h)) tt (sym value_none) r h (omega arith) in
      (rw zero-add at a) ∙ rw (run_all r h) (simp (before_all ds r.run.all, from_all ds r.run.all))

  pub units_other : {sum count : ℕ} {rest : List ℕ} → Ran s 0 sum count rest → {c : ℕ} {u : List ℕ} → rest ≡ c ∷ u → (c ≡ 46 → ⊥) → None ≡ read_digits (F d) sign (unblanked s)
  units_other {sum} {count} {rest} r {c} {u} h n =
      let ds : List ℕ = r.run.digits in
      let t : List ℕ = unblanked u in
      let y : List ℕ = drop 1 (from_point (ds ++ (c ∷ t))) in
      let b : before_point (ds ++ (c ∷ t)) ++ y ≡ ds ++ (c ∷ (before_point t ++ y)) =
      rw (before_digits ds (c ∷ t) r.run.all, before_other c t n) (append_assoc ds (c ∷ before_point t) y) in
      rw (run_part r h) (sym (number_bad sign (places_read d (ds ++ (c ∷ t))) (before_point (ds ++ (c ∷ t))) y ds c (before_point t ++ y) b (subst Stopped h r.stop).1))

  pub units_pointed : {sum count : ℕ} {rest : List ℕ} (r : Ran s 0 sum count rest) → {c : ℕ} {u : List ℕ} → rest ≡ c ∷ u → c ≡ 46 → number_read sign (length (unblanked u)) r.run.digits (unblanked u) ≡ read_digits (F d) sign (unblanked s)
  units_pointed {sum} {count} {rest} r {c} {u} h e =
      let ds : List ℕ = r.run.digits in
      let y : List ℕ = unblanked u in
      let b : before_point (ds ++ (46 ∷ y)) ≡ ds = before_digits ds (46 ∷ y) r.run.all ∙ rw (at_point y).0 (append-nil ds) in
      let f : from_point (ds ++ (46 ∷ y)) ≡ 46 ∷ y = from_digits ds (46 ∷ y) r.run.all ∙ (at_point y).1 in
      rw (run_part r h, e) (simp (b, f, lt-ltb 0 (suc (length y)) (omega arith)))

  pub units_over : RunTooLarge s 0 → None ≡ read_digits (F d) sign (unblanked s)
  units_over r =
      let ds : List ℕ = r.digits in
      let y : List ℕ = drop 1 (from_point (ds ++ r.more)) in
      let b : before_point (ds ++ r.more) ++ y ≡ ds ++ (before_point r.more ++ y) =
      rw (before_digits ds r.more r.all) (append_assoc ds (before_point r.more) y) in
      rw r.rest_is (sym (number_over sign (places_read d (ds ++ r.more)) (before_point (ds ++ r.more)) y ds (before_point r.more ++ y) b (omega (arith, r.high))))
