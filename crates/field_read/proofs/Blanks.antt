-- Laws of `unblanked` and of `after_blanks`.
-- Assumes nothing.
use mathlib.Core.Path.{◌≡◌, refl, sym, ap, ◌∙◌}
use mathlib.Core.Bool.{Bool, true, false, cond}
use mathlib.Core.List.{List, [], ◌∷◌, ◌++◌, append_assoc}
use Prim.Native.Nat.{ℕ, zero, suc, ◌-◌, ◌<◌, ◌≤◌}
use native.Mathlib.Omega.{arith}
use borrow.Author.Tests.{ne_eqb, eqb-true, eqb-false}
use lib.Dec.{eqb}
use lib.ListN.{length, take, drop, get_or, replicate}
use lib.Seq.{take-length}
use Rattle.buffer.specs.Characters.{blank}
use Rattle.number.specs.Digits.{Digits}
use Rattle.field_read.specs.Read.{unblanked}
use Rattle.field_read.specs.LogicalRead.{after_blanks}

pub unblanked_append : (xs ys : List ℕ) → unblanked (xs ++ ys) ≡ unblanked xs ++ unblanked ys
unfolding unblanked
unblanked_append [] ys = refl
unblanked_append (x ∷ xs) ys = rw (unblanked_append xs ys) (go (eqb x blank))
  where
    go : (b : Bool) → cond b (unblanked xs ++ unblanked ys) (x ∷ (unblanked xs ++ unblanked ys)) ≡ cond b (unblanked xs) (x ∷ unblanked xs) ++ unblanked ys
    go true = refl
    go false = refl

pub unblanked_blanks : (k : ℕ) → unblanked (replicate k blank) ≡ []
unfolding unblanked
unblanked_blanks zero = refl
unblanked_blanks (suc k) = unblanked_blanks k

pub unblanked_digits : (ds : List ℕ) → Digits ds → unblanked ds ≡ ds
unfolding unblanked
unblanked_digits [] h = refl
unblanked_digits (x ∷ xs) h = simp (ne_eqb x blank (λ e. omega arith), unblanked_digits xs h.2)

-- ---- the first byte, and what stands after it

-- a slice that is not empty, by its first byte and the part after it, as the code takes it
pub first_rest : (s : List ℕ) {x : ℕ} → 1 ≤ length s → get_or s 0 0 ≡ x → s ≡ x ∷ take (length s - 1) (drop 1 s)
first_rest [] h e = absurd (omega arith)
first_rest (y ∷ s) {x} h e =
    let k : length (y ∷ s) - 1 ≡ length s = omega arith in
    let t : take (length (y ∷ s) - 1) (drop 1 (y ∷ s)) ≡ s = ap (λ (n : ℕ). take n s) k ∙ take-length s in
    ap (λ (z : ℕ). z ∷ s) e ∙ ap (λ (l : List ℕ). x ∷ l) (sym t)

-- whether a slice is empty, as the code asks
pub short_none : (s : List ℕ) → length s < 1 → s ≡ []
short_none [] h = refl
short_none (x ∷ s) h = absurd (omega arith)

pub test_none : (s : List ℕ) → true ≡ eqb (length s) 0 → s ≡ []
test_none s e = let z : length s ≡ 0 = eqb-true (length s) 0 (sym e) in short_none s (omega arith)

pub test_some : (s : List ℕ) → false ≡ eqb (length s) 0 → 1 ≤ length s
test_some [] e = absurd (eqb-false 0 0 (sym e) refl)
test_some (x ∷ s) e = omega arith

pub at_blank : (t : List ℕ) → unblanked (blank ∷ t) ≡ unblanked t
unfolding unblanked
at_blank t = refl

pub at_other : (x : ℕ) (t : List ℕ) → (x ≡ blank → ⊥) → unblanked (x ∷ t) ≡ x ∷ unblanked t
unfolding unblanked
at_other x t n = simp (ne_eqb x blank n)

pub unblanked_none : unblanked [] ≡ []
unfolding unblanked
unblanked_none = refl

-- ---- the same of `after_blanks`

pub after_blank : (t : List ℕ) → after_blanks (blank ∷ t) ≡ after_blanks t
unfolding after_blanks
after_blank t = refl

pub after_other : (x : ℕ) (t : List ℕ) → (x ≡ blank → ⊥) → after_blanks (x ∷ t) ≡ x ∷ t
unfolding after_blanks
after_other x t n = simp (ne_eqb x blank n)

pub after_none : after_blanks [] ≡ []
unfolding after_blanks
after_none = refl

-- by the first byte, as the code has it
pub blank_front : (s : List ℕ) → 1 ≤ length s → get_or s 0 0 ≡ blank → after_blanks s ≡ after_blanks (take (length s - 1) (drop 1 s))
blank_front s h e = ap after_blanks (first_rest s h e) ∙ after_blank (take (length s - 1) (drop 1 s))

pub other_front : (s : List ℕ) → 1 ≤ length s → (get_or s 0 0 ≡ blank → ⊥) → after_blanks s ≡ s
other_front s h n =
    let e = first_rest s h refl in
    ap after_blanks e ∙ after_other (get_or s 0 0) (take (length s - 1) (drop 1 s)) n ∙ sym e

pub nothing_front : (s : List ℕ) → length s < 1 → after_blanks s ≡ s
nothing_front [] h = after_none
nothing_front (x ∷ s) h = absurd (omega arith)

-- without its blanks a field is what it is without those in front
pub unblanked_after : (s : List ℕ) → unblanked s ≡ unblanked (after_blanks s)
unfolding unblanked after_blanks
unblanked_after [] = refl
unblanked_after (x ∷ xs) = go (eqb x blank) refl (unblanked_after xs)
  where
    go : (b : Bool) → eqb x blank ≡ b → unblanked xs ≡ unblanked (after_blanks xs) → cond b (unblanked xs) (x ∷ unblanked xs) ≡ unblanked (cond b (after_blanks xs) (x ∷ xs))
    go true e r = r
    go false e r = simp e

-- which is an end of s
pub blanks_before : (s : List ℕ) → (front : List ℕ) × (s ≡ front ++ after_blanks s)
unfolding after_blanks
blanks_before [] = ([], refl)
blanks_before (x ∷ xs) = go (eqb x blank) (blanks_before xs)
  where
    go : (b : Bool) → (front : List ℕ) × (xs ≡ front ++ after_blanks xs) → (front : List ℕ) × (x ∷ xs ≡ front ++ cond b (after_blanks xs) (x ∷ xs))
    go true w = (x ∷ w.0, ap (λ (l : List ℕ). x ∷ l) w.1)
    go false w = ([], refl)

-- an end of s, after its first byte
pub ends_after : (s front : List ℕ) (x : ℕ) (t : List ℕ) → s ≡ front ++ (x ∷ t) → s ≡ (front ++ (x ∷ [])) ++ t
ends_after s front x t e = e ∙ sym (append_assoc front (x ∷ []) t)

-- and no blank stands in front of it
pub after_first : (s : List ℕ) {x : ℕ} {t : List ℕ} → after_blanks s ≡ x ∷ t → x ≡ blank → ⊥
unfolding after_blanks
after_first [] e z = let k : ◌≡◌ {A = ℕ} 0 1 = cc in absurd (omega arith)
after_first (y ∷ ys) {x} {t} e z = go (λ f. after_first ys f z) (eqb y blank) refl e
  where
    go : (after_blanks ys ≡ x ∷ t → ⊥) → (b : Bool) → eqb y blank ≡ b → cond b (after_blanks ys) (y ∷ ys) ≡ x ∷ t → ⊥
    go r true q f = r f
    go r false q f = eqb-false y blank q (let k : y ≡ x = cc in k ∙ z)
