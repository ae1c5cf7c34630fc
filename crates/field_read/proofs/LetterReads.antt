-- Laws of logicals and texts read.
-- Assumes nothing.
use mathlib.Core.Path.{◌≡◌, refl, sym, ap, ◌∙◌}
use mathlib.Core.Bool.{Bool, true, false, ◌&&◌, cond}
use mathlib.Core.List.{List, [], ◌∷◌, ◌++◌, append_assoc}
use Prim.Native.Nat.{ℕ, zero, suc, ◌-◌, ◌<◌, ◌≤◌}
use native.Mathlib.Omega.{arith}
use borrow.Author.Tests.{eqb-true, ne_eqb, le-leb, lt-leb, leb-true, leb-false}
use lib.Dec.{leb, eqb}
use lib.ListN.{length, take, drop, replicate, length-append, length-replicate, length-drop}
use lib.Seq.{drop_at}
use Rattle.buffer.specs.Characters.{blank, decimal_point, is_printable, all_printable}
use Rattle.field_written.specs.LogicalField.{letter, logical_field}
use Rattle.field_written.specs.TextField.{text_field}
use Rattle.field_written.proofs.Letters.{text_fits, text_cut, length_text}
use Rattle.field_read.specs.LogicalRead.{after_blanks, after_period, letter_read, logical_read}
use Rattle.field_read.specs.TextRead.{text_read, text_readable, shown_text}
use Rattle.std.specs.Prelude.{Some, None}
use Rattle.field_read.specs.Promises.{SpellsLogical, LogicalReadIs, LogicalReadsBack, TextReadLength, TextReadsBack}

-- ---- a field that is read as b is so spelled

-- t is blanks and what stands after them
record Blanks (t : List ℕ) : Type 0 where
  count : ℕ
  is : t ≡ replicate count blank ++ after_blanks t

blanks_in : (t : List ℕ) → Blanks t
unfolding after_blanks
blanks_in [] = record { count = 0; is = refl }
blanks_in (x ∷ xs) = go (eqb x blank) refl (blanks_in xs)
  where
    go : (b : Bool) → eqb x blank ≡ b → Blanks xs → Blanks (x ∷ xs)
    go true e w =
        record { count = suc w.count; is = rw (e, eqb-true x blank e) (ap (λ (r : List ℕ). blank ∷ r) w.is) }
    go false e w = record { count = 0; is = rw e }

record Period (t : List ℕ) : Type 0 where
  there : Bool
  is : t ≡ cond there (decimal_point ∷ []) [] ++ after_period t

period_in : (t : List ℕ) → Period t
period_in [] = record { there = false; is = refl }
period_in (x ∷ xs) = go (eqb x decimal_point) refl
  where
    go : (b : Bool) → eqb x decimal_point ≡ b → Period (x ∷ xs)
    go true e = record { there = true; is = rw (e, eqb-true x decimal_point e) }
    go false e = record { there = false; is = rw e }

record Letter (t : List ℕ) (b : Bool) : Type 0 where
  rest : List ℕ
  is : t ≡ letter b ∷ rest

refused_not_truth : {P : Type 0} {b : Bool} → None ≡ Some b → P
refused_not_truth e = let z : ◌≡◌ {A = ℕ} 0 1 = cc in absurd (omega arith)

letter_in : (t : List ℕ) (b : Bool) → letter_read t ≡ Some b → Letter t b
letter_in [] b e = refused_not_truth e
letter_in (x ∷ xs) b e = go (eqb x 84) refl (eqb x 70) refl e
  where
    go : (p : Bool) → eqb x 84 ≡ p → (q : Bool) → eqb x 70 ≡ q → cond p (Some true) (cond q (Some false) None) ≡ Some b → Letter (x ∷ xs) b
    go true ep q eq f = let k : true ≡ b = cc in record { rest = xs; is = rw (← k, eqb-true x 84 ep) }
    go false ep true eq f = let k : false ≡ b = cc in record { rest = xs; is = rw (← k, eqb-true x 70 eq) }
    go false ep false eq f = refused_not_truth f

spelled : (t : List ℕ) (b : Bool) → logical_read t ≡ Some b → SpellsLogical t b
unfolding logical_read
spelled t b e =
    let w = blanks_in t in
    let p = period_in (after_blanks t) in
    let l = letter_in (after_period (after_blanks t)) b e in
    record {
      blanks = w.count;
      period = p.there;
      rest = l.rest;
      is = w.is ∙ ap (λ (r : List ℕ). replicate w.count blank ++ r) (p.is ∙ ap (λ (r : List ℕ). cond p.there (decimal_point ∷ []) [] ++ r) l.is) ∙ sym (append_assoc (replicate w.count blank) (cond p.there (decimal_point ∷ []) []) (letter b ∷ l.rest));
    }

-- ---- and what is so spelled is read as b

after_blanks_lem : (k x : ℕ) (t : List ℕ) → (x ≡ blank → ⊥) → after_blanks (replicate k blank ++ (x ∷ t)) ≡ x ∷ t
unfolding after_blanks
after_blanks_lem zero x t n = rw (ne_eqb x blank n)
after_blanks_lem (suc k) x t n = after_blanks_lem k x t n

letter_read_lem : (k : ℕ) (p b : Bool) (rest : List ℕ) → logical_read (replicate k blank ++ (cond p (decimal_point ∷ []) [] ++ (letter b ∷ rest))) ≡ Some b
unfolding logical_read
letter_read_lem k true true rest = rw (after_blanks_lem k decimal_point (letter true ∷ rest) (λ e. omega arith))
letter_read_lem k true false rest = rw (after_blanks_lem k decimal_point (letter false ∷ rest) (λ e. omega arith))
letter_read_lem k false true rest = rw (after_blanks_lem k (letter true) rest (λ e. omega arith))
letter_read_lem k false false rest = rw (after_blanks_lem k (letter false) rest (λ e. omega arith))

pub logical_read_is : LogicalReadIs
logical_read_is t b =
    (spelled t b, λ w. rw (w.is, append_assoc) (letter_read_lem w.blanks w.period b w.rest))

pub logical_reads_back : LogicalReadsBack
unfolding logical_field
logical_reads_back w b h = letter_read_lem (w - 1) false b []

-- ---- a text

module _ (m : ℕ) (t : List ℕ) where
  text_last : m ≤ length t → text_read m t ≡ drop (length t - m) t
  unfolding text_read
  text_last h = rw (le-leb m (length t) h)

  text_padded : length t < m → text_read m t ≡ t ++ replicate (m - length t) blank
  unfolding text_read
  text_padded h = rw (lt-leb m (length t) h)

  long : length (text_read m t) ≡ m
  long = go (leb m (length t)) refl
    where
      go : (b : Bool) → leb m (length t) ≡ b → length (text_read m t) ≡ m
      go true e =
          let h : m ≤ length t = leb-true m (length t) e in
          rw (text_last h, length-drop (length t - m) t) (omega arith)
      go false e =
          let h : length t < m = leb-false m (length t) e in
          rw (text_padded h, length-append t (replicate (m - length t) blank), length-replicate (m - length t) blank) (omega arith)

pub text_read_length : TextReadLength
text_read_length m t = long m t

-- ---- the field of a text

and_then : (a b c : Bool) → (b ≡ true → c ≡ true) → (a && b) ≡ true → (a && c) ≡ true
and_then true b c f e = f e
and_then false b c f e = e

printable_append : (xs ys : List ℕ) → all_printable xs ≡ true → all_printable ys ≡ true → all_printable (xs ++ ys) ≡ true
unfolding all_printable
printable_append [] ys p q = q
printable_append (x ∷ xs) ys p q =
    and_then (is_printable x) (all_printable xs) (all_printable (xs ++ ys)) (λ e. printable_append xs ys e q) p

printable_blanks : (k : ℕ) → all_printable (replicate k blank) ≡ true
unfolding all_printable
printable_blanks zero = refl
printable_blanks (suc k) = printable_blanks k

printable_take : (k : ℕ) (xs : List ℕ) → all_printable xs ≡ true → all_printable (take k xs) ≡ true
unfolding all_printable
printable_take zero xs p = refl
printable_take (suc k) [] p = refl
printable_take (suc k) (x ∷ xs) p =
    and_then (is_printable x) (all_printable xs) (all_printable (take k xs)) (printable_take k xs) p

pub text_reads_back : TextReadsBack
unfolding shown_text
text_reads_back w text p = go (leb (length text) w) refl
  where
    go : (b : Bool) → leb (length text) w ≡ b → (text_readable (text_field w text) ≡ true) × (text_read (length text) (text_field w text) ≡ cond b text (take w text ++ replicate (length text - w) blank))
    go true e =
        let h : length text ≤ w = leb-true (length text) w e in
        let k : ℕ = w - length text in (
          rw (text_fits w text h) (printable_append (replicate k blank) text (printable_blanks k) p),
          text_last (length text) (text_field w text) (rw (length_text w text) h) ∙ rw (length_text w text, text_fits w text h) (drop_at (replicate k blank) text k (length-replicate k blank)),
        )
    go false e =
        let h : w < length text = leb-false (length text) w e in (
          rw (text_cut w text h) (printable_take w text p),
          text_padded (length text) (text_field w text) (rw (length_text w text) h) ∙ rw (length_text w text, text_cut w text h),
        )
