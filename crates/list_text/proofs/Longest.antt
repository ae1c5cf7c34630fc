-- A list text longer than 64 lines of 66 bytes is refused, and what follows it does not matter.
-- Assumes nothing.
use mathlib.Core.Path.{◌≡◌, refl, sym, ap, ◌∙◌}
use mathlib.Core.Bool.{Bool, true, false, ◌&&◌, ◌||◌, cond}
use mathlib.Core.List.{List, [], ◌∷◌, ◌++◌}
use Prim.Native.Nat.{ℕ, zero, suc, ◌+◌, ◌-◌, ◌*◌, ◌<◌, ◌≤◌}
use native.Mathlib.Nat.{suc-mul}
use native.Mathlib.Decide.{dec_lt}
use native.Mathlib.Omega.{arith}
use borrow.Author.Tests.{lt-ltb, le-leb, lt-leb, ne_eqb}
use lib.Dec.{eqb, leb}
use lib.ListN.{length, take, drop, get_or, length-append, length-drop, length-take, get_or-eq_default}
use lib.Seq.{take-append-le, drop-append-le}
use Rattle.std.proofs.lemmas.Bool.{and_left, and_right}
use Rattle.number.specs.Digits.{is_digit}
use Rattle.buffer.specs.Characters.{letter_i, letter_d, letter_l, letter_a}
use Rattle.list_elements.specs.Elements.{text_bytes, most_elements}
use Rattle.list_elements.specs.Limits.{longest_text, good, bad, within_limits, first_failing, check_values}
use Rattle.list_elements.specs.declared.Text.{Text}
use Rattle.list_elements.specs.declared.Value.{Value}
use Rattle.list_elements.specs.declared.Value.TheVariants as value
use Rattle.list_text.specs.Lines.{line_feed, first_line, after_line, lines}
use Rattle.list_text.specs.ElementLines.{some_digits, has_minus, after_minus, is_number, number_of, malformed, integer_line, units_part, places_byte, decimal_line, logical_line, begins, element_on}
use Rattle.list_text.specs.ListText.{elements_from, line_values, line_check}
use Rattle.list_text.specs.Promises.{MalformedOutside, longest_line, RefusedAlike, LongRefused}
use Rattle.list_text.proofs.LineLaws.{line_short, after_is, lines_are}

-- ---- a text and what follows it

pub line_over : (s more : List ℕ) → length (first_line s) ≤ length (first_line (s ++ more))
unfolding first_line
line_over [] more = omega arith
line_over (b ∷ s) more = go (line_over s more) (eqb b line_feed)
  where
    go : length (first_line s) ≤ length (first_line (s ++ more)) → (t : Bool) → length (cond t [] (b ∷ first_line s)) ≤ length (cond t [] (b ∷ first_line (s ++ more)))
    go r true = omega arith
    go r false = omega arith

-- a line that ends before the text does is ended by a line feed
pub line_ended : (s more : List ℕ) → length (first_line s) < length s → (first_line (s ++ more) ≡ first_line s) × (after_line (s ++ more) ≡ after_line s ++ more)
unfolding first_line after_line
line_ended [] more h = absurd (omega arith)
line_ended (b ∷ s) more h = go (line_ended s more) (eqb b line_feed) h
  where
    go : (length (first_line s) < length s → (first_line (s ++ more) ≡ first_line s) × (after_line (s ++ more) ≡ after_line s ++ more)) → (t : Bool)
        → length (cond t [] (b ∷ first_line s)) < suc (length s)
        → (cond t [] (b ∷ first_line (s ++ more)) ≡ cond t [] (b ∷ first_line s)) × (cond t (s ++ more) (after_line (s ++ more)) ≡ cond t s (after_line s) ++ more)
    go r true g = (refl, refl)
    go r false g = let w = r (omega arith) in (ap (λ (l : List ℕ). b ∷ l) w.0, w.1)

pub after_long : (s : List ℕ) → length (after_line s) ≡ length s - (length (first_line s) + 1)
after_long s = ap length (sym (after_is s)) ∙ length-drop (length (first_line s) + 1) s

-- ---- a line that is too long

-- more digits than so many
pub digits_over : (most : ℕ) (s : List ℕ) → most < length s → some_digits most s ≡ false
unfolding some_digits
digits_over most s h = and_right (leb 1 (length s)) _ (and_left (leb (length s) most) _ (lt-leb (length s) most h))

number_long : (s : List ℕ) → 20 ≤ length s → is_number s ≡ false
unfolding is_number
number_long s h = digits_over 18 (after_minus s) (go (has_minus s))
  where
    go : (b : Bool) → 18 < length (cond b (drop 1 s) s)
    go true = rw length-drop (omega arith)
    go false = omega arith

pub wrong_outside : MalformedOutside
unfolding within_limits
wrong_outside area = refl

integer_long : (area s : List ℕ) → 20 ≤ length s → within_limits area (integer_line s) ≡ false
unfolding integer_line
integer_long area s h = rw (number_long s h) (wrong_outside area)

decimal_long : (area s : List ℕ) → 22 ≤ length s → within_limits area (decimal_line s) ≡ false
unfolding decimal_line
decimal_long area s h =
    let l : 20 ≤ length (units_part s) = rw length-take (omega arith) in
    rw (number_long (units_part s) l) (wrong_outside area)

logical_long : (area s : List ℕ) → 2 ≤ length s → within_limits area (logical_line s) ≡ false
unfolding logical_line
logical_long area s h = rw (ne_eqb (length s) 1 (λ e. omega arith)) (wrong_outside area)

text_long : (area : List ℕ) (t : Text) → longest_text < t.len → within_limits area (value.Text t) ≡ false
unfolding within_limits
text_long area t h = and_left (leb 1 t.len && leb t.len longest_text) _ (and_right (leb 1 t.len) (leb t.len longest_text) (lt-leb t.len longest_text h))

pub line_refused : (area : List ℕ) (start : ℕ) (l : List ℕ) → longest_line < length l → within_limits area (element_on start l) ≡ false
unfolding element_on
line_refused area start l h = go (begins letter_i l) (begins letter_d l) (begins letter_l l) (begins letter_a l)
  where
    rest : 65 ≤ length (drop 2 l)
    rest = rw length-drop (omega arith)

    go : (i d t a : Bool) → within_limits area (cond i (integer_line (drop 2 l)) (cond d (decimal_line (drop 2 l)) (cond t (logical_line (drop 2 l)) (cond a (value.Text (record { start = start + 2; len = length l - 2 })) malformed)))) ≡ false
    go true d t a = integer_long area (drop 2 l) (omega (arith, rest))
    go false true t a = decimal_long area (drop 2 l) (omega (arith, rest))
    go false false true a = logical_long area (drop 2 l) (omega (arith, rest))
    go false false false true = text_long area (record { start = start + 2; len = length l - 2 }) (omega arith)
    go false false false false = wrong_outside area

-- ---- an element's text lies in its line

-- a text within the first n bytes; other values lie nowhere
abbrev Lies : ℕ → Value → Type 0
Lies n (value.Integer m) = Unit {0}
Lies n (value.Decimal d) = Unit {0}
Lies n (value.Logical b) = Unit {0}
Lies n (value.Text t) = t.start + t.len ≤ n

either_lies : (n : ℕ) (v : Value) → Lies n v → (b : Bool) → Lies n (cond b v malformed)
either_lies n v h true = h
either_lies n v h false = omega arith

integer_lies : (n : ℕ) (s : List ℕ) → Lies n (integer_line s)
unfolding integer_line
integer_lies n s = either_lies n (value.Integer (number_of s)) tt (is_number s)

decimal_lies : (n : ℕ) (s : List ℕ) → Lies n (decimal_line s)
unfolding decimal_line
decimal_lies n s =
    either_lies n (value.Decimal (record { units = number_of (units_part s); places = places_byte s - 48 })) tt
    (is_number (units_part s) && (eqb (get_or s (length s - 2) 0) 32 && is_digit (places_byte s)))

logical_lies : (n : ℕ) (s : List ℕ) → Lies n (logical_line s)
unfolding logical_line
logical_lies n s =
    either_lies n (value.Logical (eqb (get_or s 0 0) 84)) tt (eqb (length s) 1 && (eqb (get_or s 0 0) 84 || eqb (get_or s 0 0) 70))

begun_long : (letter : ℕ) (l : List ℕ) → begins letter l ≡ true → 2 ≤ length l
begun_long letter l e =
    elim (dec_lt 1 (length l)) [
      | yes h ↦ h
      | no h ↦ let d : get_or l 1 0 ≡ 0 = get_or-eq_default l 0 (omega arith) in absurd (go (eqb (get_or l 0 0) letter) (rw d at e))
    ]
  where
    go : (a : Bool) → (a && eqb 0 32) ≡ true → ⊥
    go true f = let z : ◌≡◌ {A = ℕ} 0 1 = cc in omega arith
    go false f = let z : ◌≡◌ {A = ℕ} 0 1 = cc in omega arith

element_lies : (n start : ℕ) (l : List ℕ) → start + length l ≤ n → Lies n (element_on start l)
unfolding element_on
element_lies n start l h = go (begins letter_i l) (begins letter_d l) (begins letter_l l) (begins letter_a l) refl
  where
    go : (i d t a : Bool) → begins letter_a l ≡ a
        → Lies n (cond i (integer_line (drop 2 l)) (cond d (decimal_line (drop 2 l)) (cond t (logical_line (drop 2 l)) (cond a (value.Text (record { start = start + 2; len = length l - 2 })) malformed))))
    go true d t a e = integer_lies n (drop 2 l)
    go false true t a e = decimal_lies n (drop 2 l)
    go false false true a e = logical_lies n (drop 2 l)
    go false false false true e = omega (arith, begun_long letter_a l e)
    go false false false false e = omega arith

-- and then its limits do not depend on what follows
lies_same : (s more : List ℕ) (v : Value) → Lies (length s) v → within_limits (s ++ more) v ≡ within_limits s v
unfolding within_limits text_bytes
lies_same s more (value.Integer n) h = refl
lies_same s more (value.Decimal d) h = refl
lies_same s more (value.Logical b) h = refl
lies_same s more (value.Text t) h =
    let d : drop t.start (s ++ more) ≡ drop t.start s ++ more = drop-append-le t.start s more (omega arith) in
    let l : t.len ≤ length (drop t.start s) = rw length-drop (omega arith) in
    let a : leb (t.start + t.len) (length (s ++ more)) ≡ leb (t.start + t.len) (length s) =
    le_same (t.start + t.len) (length s) (length (s ++ more)) h (omega (arith, length-append s more)) in
    rw (d, take-append-le t.len (drop t.start s) more l, a)
  where
    le_same : (m n k : ℕ) → m ≤ n → n ≤ k → leb m k ≡ leb m n
    le_same m n k a b = le-leb m k (omega arith) ∙ sym (le-leb m n a)

-- ---- k lines

-- of both lists of values one of the first k fails, at the same place; or none does, and there are more
data Alike (i k : ℕ) (test test₂ : Value → Bool) (vs ws : List Value) : Type 0 where
  fails : (p : ℕ) → first_failing test i (take k vs) ≡ bad p → first_failing test₂ i (take k ws) ≡ bad p → Alike i k test test₂ vs ws
  passes : first_failing test i (take k vs) ≡ good → first_failing test₂ i (take k ws) ≡ good → k < length vs → k < length ws → Alike i k test test₂ vs ws

module _ (i k : ℕ) (test test₂ : Value → Bool) (v : Value) (vs : List Value) (w : Value) (ws : List Value) where
  alike_bad : test v ≡ false → test₂ w ≡ false → Alike i (suc k) test test₂ (v ∷ vs) (w ∷ ws)
  unfolding first_failing
  alike_bad a b = Alike.fails i (rw a) (rw b)

  alike_good : test v ≡ true → test₂ w ≡ true → Alike (i + 1) k test test₂ vs ws → Alike i (suc k) test test₂ (v ∷ vs) (w ∷ ws)
  unfolding first_failing
  alike_good a b (Alike.fails p e f) = Alike.fails p (rw (a, e)) (rw (b, f))
  alike_good a b (Alike.passes e f g h) = Alike.passes (rw (a, e)) (rw (b, f)) (omega arith) (omega arith)

first_element : (at : ℕ) (r : List ℕ) → 0 < length r → elements_from at (lines r) ≡ element_on at (first_line r) ∷ elements_from (at + length (first_line r) + 1) (lines (after_line r))
unfolding elements_from
first_element at r h = rw (lines_are r h)

module _ (s more : List ℕ) where
  alike : (k i at : ℕ) (r : List ℕ) → k * (longest_line + 1) < length r → at + length r ≤ length s
      → Alike i k (within_limits s) (within_limits (s ++ more)) (elements_from at (lines r)) (elements_from at (lines (r ++ more)))
  unfolding first_failing
  alike zero i at r h g =
      Alike.passes refl refl (rw (first_element at r (omega arith)) (omega arith)) (rw (first_element at (r ++ more) (rw length-append (omega arith))) (omega arith))
  alike (suc k) i at r h g =
      rw (first_element at r (omega arith), first_element at (r ++ more) (rw length-append (omega arith)))
      (go (dec_lt longest_line (length (first_line r))) (alike k (i + 1) (at + length (first_line r) + 1) (after_line r)))
    where
      go : Dec (longest_line < length (first_line r))
          → (k * (longest_line + 1) < length (after_line r) → at + length (first_line r) + 1 + length (after_line r) ≤ length s
          → Alike (i + 1) k (within_limits s) (within_limits (s ++ more)) (elements_from (at + length (first_line r) + 1) (lines (after_line r))) (elements_from (at + length (first_line r) + 1) (lines (after_line r ++ more))))
          → Alike i (suc k) (within_limits s) (within_limits (s ++ more))
          (element_on at (first_line r) ∷ elements_from (at + length (first_line r) + 1) (lines (after_line r)))
          (element_on at (first_line (r ++ more)) ∷ elements_from (at + length (first_line (r ++ more)) + 1) (lines (after_line (r ++ more))))
      go (yes long) rec =
          alike_bad i k _ _ _ _ _ _ (line_refused s at (first_line r) long) (line_refused (s ++ more) at (first_line (r ++ more)) (omega (arith, line_over r more)))
      go (no short) rec =
          let m : suc k * (longest_line + 1) ≡ k * (longest_line + 1) + (longest_line + 1) = suc-mul k (longest_line + 1) in
          let e = line_ended r more (omega (arith, suc-mul k (longest_line + 1))) in
          let a = after_long r in
          let same = lies_same s more (element_on at (first_line r)) (element_lies (length s) at (first_line r) (omega (arith, line_short r))) in
          rw (e.0, e.1) (test (within_limits s (element_on at (first_line r))) refl same (rec (omega arith) (omega arith)))
        where
          test : (b : Bool) → within_limits s (element_on at (first_line r)) ≡ b → within_limits (s ++ more) (element_on at (first_line r)) ≡ within_limits s (element_on at (first_line r))
              → Alike (i + 1) k (within_limits s) (within_limits (s ++ more)) (elements_from (at + length (first_line r) + 1) (lines (after_line r))) (elements_from (at + length (first_line r) + 1) (lines (after_line r ++ more)))
              → Alike i (suc k) (within_limits s) (within_limits (s ++ more))
              (element_on at (first_line r) ∷ elements_from (at + length (first_line r) + 1) (lines (after_line r)))
              (element_on at (first_line r) ∷ elements_from (at + length (first_line r) + 1) (lines (after_line r ++ more)))
          test true p same w = alike_good i k _ _ _ _ _ _ p (same ∙ p) w
          test false p same w = alike_bad i k _ _ _ _ _ _ p (same ∙ p)

-- ---- the whole text

concluded : (s more : List ℕ) → Alike 0 most_elements (within_limits s) (within_limits (s ++ more)) (line_values s) (line_values (s ++ more)) → RefusedAlike s more
unfolding line_check check_values
concluded s more (Alike.fails p e f) = record { place = p; short = rw e; whole = rw f }
concluded s more (Alike.passes e f g h) =
    record {
      place = most_elements;
      short = rw (e, lt-ltb most_elements (length (line_values s)) g);
      whole = rw (f, lt-ltb most_elements (length (line_values (s ++ more))) h);
    }

pub long_refused : LongRefused
unfolding line_values
long_refused s more h = concluded s more (alike s more most_elements 0 0 s h (omega arith))
