-- Element lines in the rules' words.
-- Assumes nothing.
use mathlib.Core.Path.{◌≡◌, refl, sym, ap, subst, ◌∙◌}
use mathlib.Core.Logic.{◌⊎◌, inl, inr}
use mathlib.Core.Bool.{Bool, true, false, ◌&&◌, false≢true}
use mathlib.Core.List.{List, [], ◌∷◌, ◌++◌}
use Prim.Native.Nat.{ℕ, suc, ◌+◌, ◌-◌, ◌≤◌}
use native.Mathlib.Omega.{arith}
use borrow.Author.Tests.{eqb-true, eqb-false, ne_eqb, le-leb}
use lib.Dec.{eqb}
use lib.IntN.{ℤ}
use lib.ListN.{length, take, drop, get_or, length-append, length-take, take-append-drop}
use lib.Seq.{take-append_seam, get_or-append-add, get_or-append_seam, drop-cons, drop-length}
use Rattle.buffer.specs.Characters.{blank, minus_sign, digit_zero, digit_nine, letter_i, letter_d, letter_l, letter_a, letter_t, letter_f}
use Rattle.number.specs.Limits.{most_digits}
use Rattle.number.specs.Digits.{is_digit, Digits, value}
use Rattle.number.specs.Magnitude.{with_sign}
use Rattle.number.proofs.DigitLaws.{all_digits_lem, digit_bounds}
use Rattle.list_elements.specs.declared.Value.{Value}
use Rattle.list_elements.specs.declared.Value.TheVariants as value
use Rattle.list_text.specs.ElementLines.{some_digits, has_minus, after_minus, is_number, number_of, malformed, integer_line, units_part, places_byte, decimal_line, logical_line, element_on}
use Rattle.list_text.specs.Promises.{Number, ElementLine, ElementLineIs}
use Rattle.list_text.proofs.DigitReads.{some_digits_lem}
use Rattle.list_text.proofs.ElementLaws.{element_unblank, element_short, element_other}
use Rattle.std.proofs.lemmas.Bool.{and_parts}

-- ---- numbers

digits_some : (ds : List ℕ) → Digits ds → 1 ≤ length ds → length ds ≤ most_digits → some_digits most_digits ds ≡ true
unfolding some_digits
digits_some ds d l h = rw (le-leb 1 (length ds) l, le-leb (length ds) most_digits h) (all_digits_lem ds d)

-- digits have no minus in front
digits_plain : (ds : List ℕ) → Digits ds → has_minus ds ≡ false
digits_plain [] d = refl
digits_plain (x ∷ xs) d = ne_eqb x minus_sign (λ e. omega (arith, d.0))

number_is : {n : List ℕ} {z : ℤ} → Number n z → (is_number n ≡ true) × (number_of n ≡ z)
unfolding is_number number_of
number_is (Number.plain {ds} d l h) = rw (digits_plain ds d) (digits_some ds d l h, refl)
number_is (Number.minus {ds} d l h) = (digits_some ds d l h, refl)

number_from : (s : List ℕ) → is_number s ≡ true → Number s (number_of s)
unfolding is_number number_of
number_from s e = go s (has_minus s) refl e
  where
    signed : (t : List ℕ) → get_or t 0 0 ≡ minus_sign → some_digits most_digits (drop 1 t) ≡ true → Number t (with_sign true (value (drop 1 t)))
    signed [] q f = absurd (omega arith)
    signed (x ∷ xs) q f = let d = some_digits_lem most_digits xs f in rw q (Number.minus d.2 d.0 d.1)

    go : (t : List ℕ) (b : Bool) → has_minus t ≡ b → some_digits most_digits (after_minus t) ≡ true → Number t (with_sign (has_minus t) (value (after_minus t)))
    go t true q f = rw q (signed t (eqb-true (get_or t 0 0) minus_sign q) (rw q at f))
    go t false q f = let d = some_digits_lem most_digits t (rw q at f) in rw q (Number.plain d.2 d.0 d.1)

-- ---- a line of an element gives it

integer_given_lem : {n : List ℕ} {z : ℤ} → Number n z → integer_line n ≡ value.Integer z
unfolding integer_line
integer_given_lem w = let i = number_is w in rw (i.0, i.1)

module _ (u : List ℕ) (s : ℕ) where
  abbrev both : List ℕ
  both = u ++ (blank ∷ s ∷ [])

  both_long : length both ≡ length u + 2
  both_long = length-append u (blank ∷ s ∷ [])

  both_units : units_part both ≡ u
  both_units = let e : length both - 2 ≡ length u = omega (arith, both_long) in rw e (take-append_seam u (blank ∷ s ∷ []))

  both_blank : get_or both (length both - 2) 0 ≡ blank
  both_blank = let e : length both - 2 ≡ length u = omega (arith, both_long) in rw e (get_or-append_seam u blank (s ∷ []) 0)

  both_places : places_byte both ≡ s
  both_places = let e : length both - 1 ≡ length u + 1 = omega (arith, both_long) in rw e (get_or-append-add u (blank ∷ s ∷ []) 1 0)

decimal_given_lem : {u : List ℕ} {z : ℤ} {s : ℕ} → Number u z → digit_zero ≤ s → s ≤ digit_nine → decimal_line (u ++ (blank ∷ s ∷ [])) ≡ value.Decimal (record { units = z; places = s - digit_zero })
unfolding decimal_line
decimal_given_lem {u} {z} {s} w low high =
    let i = number_is w in
    rw (both_units u s, both_blank u s, both_places u s, i.0, le-leb digit_zero s low, le-leb s digit_nine high, i.1)

element_given : (start : ℕ) (l : List ℕ) (v : Value) → ElementLine start l v → element_on start l ≡ v
unfolding element_on logical_line
element_given start l v (ElementLine.integer w) = integer_given_lem w
element_given start l v (ElementLine.decimal w low high) = decimal_given_lem w low high
element_given start l v ElementLine.logical_true = refl
element_given start l v ElementLine.logical_false = refl
element_given start l v (ElementLine.text {bytes}) =
    let e : suc (suc (length bytes)) - 2 ≡ length bytes = omega arith in
    rw e

-- ---- and a line that gives an element is one of it

abbrev Spelled : ℕ → List ℕ → Type 0
Spelled start l = ElementLine start l (element_on start l) ⊎ (element_on start l ≡ malformed)

integer_spelled : (start : ℕ) (s : List ℕ) → Spelled start (letter_i ∷ blank ∷ s)
unfolding element_on integer_line
integer_spelled start s = go (is_number s) refl
  where
    go : (b : Bool) → is_number s ≡ b → Spelled start (letter_i ∷ blank ∷ s)
    go true e = inl (rw e (ElementLine.integer (number_from s e)))
    go false e = inr (rw e)

-- the last two bytes of a line
last_two : (s : List ℕ) → 2 ≤ length s → s ≡ units_part s ++ (get_or s (length s - 2) 0 ∷ places_byte s ∷ [])
last_two s h =
    let k : ℕ = length s - 2 in
    let i : suc k ≡ length s - 1 = omega arith in
    let j : suc (suc k) ≡ length s = omega arith in
    let d : drop k s ≡ get_or s k 0 ∷ get_or s (length s - 1) 0 ∷ [] =
    drop-cons s k 0 (omega arith) ∙ ap (λ (t : List ℕ). get_or s k 0 ∷ t) (drop-cons s (suc k) 0 (omega arith) ∙ rw (j, drop-length s, i)) in
    sym (take-append-drop k s) ∙ ap (λ (t : List ℕ). take k s ++ t) d

number_some : (s : List ℕ) → is_number s ≡ true → 1 ≤ length s
unfolding is_number some_digits
number_some [] e = absurd (false≢true e)
number_some (x ∷ xs) e = omega arith

decimal_spelled : (start : ℕ) (s : List ℕ) → Spelled start (letter_d ∷ blank ∷ s)
unfolding element_on decimal_line
decimal_spelled start s = go (is_number (units_part s) && (eqb (get_or s (length s - 2) 0) blank && is_digit (places_byte s))) refl
  where
    found : is_number (units_part s) ≡ true → get_or s (length s - 2) 0 ≡ blank → is_digit (places_byte s) ≡ true
        → ElementLine start (letter_d ∷ blank ∷ s) (value.Decimal (record { units = number_of (units_part s); places = places_byte s - digit_zero }))
    found n b d =
        let l : 2 ≤ length s = omega (arith, number_some (units_part s) n, length-take (length s - 2) s) in
        let e : s ≡ units_part s ++ (blank ∷ places_byte s ∷ []) = last_two s l ∙ rw b in
        let g = digit_bounds (places_byte s) d in
        subst (λ (t : List ℕ). ElementLine start (letter_d ∷ blank ∷ t) (value.Decimal (record { units = number_of (units_part s); places = places_byte s - digit_zero }))) (sym e)
        (ElementLine.decimal (number_from (units_part s) n) g.0 g.1)

    go : (t : Bool) → (is_number (units_part s) && (eqb (get_or s (length s - 2) 0) blank && is_digit (places_byte s))) ≡ t → Spelled start (letter_d ∷ blank ∷ s)
    go true e =
        let a = and_parts (is_number (units_part s)) (eqb (get_or s (length s - 2) 0) blank && is_digit (places_byte s)) e in
        let b = and_parts (eqb (get_or s (length s - 2) 0) blank) (is_digit (places_byte s)) a.1 in
        inl (rw e (found a.0 (eqb-true (get_or s (length s - 2) 0) blank b.0) b.1))
    go false e = inr (rw e)

logical_spelled : (start : ℕ) (s : List ℕ) → Spelled start (letter_l ∷ blank ∷ s)
unfolding element_on logical_line
logical_spelled start [] = inr refl
logical_spelled start (x ∷ []) = go (eqb x letter_t) refl (eqb x letter_f) refl
  where
    go : (t : Bool) → eqb x letter_t ≡ t → (f : Bool) → eqb x letter_f ≡ f → Spelled start (letter_l ∷ blank ∷ x ∷ [])
    go true e f g = inl (rw (eqb-true x letter_t e) ElementLine.logical_true)
    go false e true g = inl (rw (eqb-true x letter_f g) ElementLine.logical_false)
    go false e false g = inr (rw (e, g))
logical_spelled start (x ∷ y ∷ s) = inr (rw (ne_eqb (length (x ∷ y ∷ s)) 1 (λ e. omega arith)))

text_spelled : (start : ℕ) (s : List ℕ) → Spelled start (letter_a ∷ blank ∷ s)
unfolding element_on
text_spelled start s =
    let e : suc (suc (length s)) - 2 ≡ length s = omega arith in
    inl (rw e ElementLine.text)

letter_spelled : (start a : ℕ) (s : List ℕ) → Spelled start (a ∷ blank ∷ s)
letter_spelled start a s = go (eqb a letter_i) refl (eqb a letter_d) refl (eqb a letter_l) refl (eqb a letter_a) refl
  where
    go : (i : Bool) → eqb a letter_i ≡ i → (d : Bool) → eqb a letter_d ≡ d → (t : Bool) → eqb a letter_l ≡ t → (x : Bool) → eqb a letter_a ≡ x → Spelled start (a ∷ blank ∷ s)
    go true e d f t g x h = rw (eqb-true a letter_i e) (integer_spelled start s)
    go false e true f t g x h = rw (eqb-true a letter_d f) (decimal_spelled start s)
    go false e false f true g x h = rw (eqb-true a letter_l g) (logical_spelled start s)
    go false e false f false g true h = rw (eqb-true a letter_a h) (text_spelled start s)
    go false e false f false g false h =
        inr (sym (element_other start (a ∷ blank ∷ s) refl (eqb-false a letter_i e) (eqb-false a letter_d f) (eqb-false a letter_l g) (eqb-false a letter_a h)))

spelled : (start : ℕ) (l : List ℕ) → Spelled start l
spelled start [] = inr (sym (element_short start [] (omega arith)))
spelled start (a ∷ []) = inr (sym (element_short start (a ∷ []) (omega arith)))
spelled start (a ∷ b ∷ s) = go (eqb b blank) refl
  where
    go : (t : Bool) → eqb b blank ≡ t → Spelled start (a ∷ b ∷ s)
    go true e = rw (eqb-true b blank e) (letter_spelled start a s)
    go false e = inr (sym (element_unblank start (a ∷ b ∷ s) (eqb-false b blank e)))

pub element_line_is : ElementLineIs
element_line_is start l = (element_given start l, spelled start l)
