-- The records as lines: laws, and the loop that puts them.
-- Assumes nothing.
use mathlib.Core.Path.{◌≡◌, refl, sym, ap, ◌∙◌}
use mathlib.Core.List.{List, [], ◌∷◌, ◌++◌, append_assoc}
use Prim.Native.Nat.{ℕ, zero, suc, ◌+◌, ◌*◌, ◌<◌, ◌≤◌}
use native.Mathlib.Nat.{zero-mul, suc-mul, mul-suc, mul-le-mul_right}
use native.Mathlib.Numerals.{add-one}
use native.Mathlib.Omega.{arith}
use lib.ListN.{length, take, drop, set, length-append, length-drop}
use lib.Seq.{drop-drop, take-append-le, drop-append-le}
use Rattle.buffer.specs.Splice.{splice}
use Rattle.buffer.proofs.Splicing.{splice_then, splice_nothing, splice_one, length_part}
use Rattle.buffer.proofs.SpliceBytes.{length_splice}
use borrow.Rule.Slice.PartMut.{put_mid}
use Rattle.list_text.specs.Lines.{line_feed}
use Rattle.sheet_text.specs.Output.{record_lines}
use Rattle.sheet_text.proofs.PutLaws.{mid_splice}

-- ---- one record more at the end

-- the line of record i
abbrev line_at : ℕ → List ℕ → ℕ → List ℕ
line_at R s i = take R (drop (i * R) s) ++ (line_feed ∷ [])

lines_more : (R i : ℕ) (s : List ℕ) → record_lines R (suc i) s ≡ record_lines R i s ++ line_at R s i
unfolding record_lines
lines_more R zero s = rw (zero-mul R)
lines_more R (suc i) s =
    let q : R + i * R ≡ suc i * R = omega (arith, suc-mul i R) in
    let e : drop (i * R) (drop R s) ≡ drop (suc i * R) s = drop-drop (i * R) R s ∙ ap (λ (k : ℕ). drop k s) q in
    ap (λ (l : List ℕ). take R s ++ (line_feed ∷ l)) (lines_more R i (drop R s) ∙ rw e)
    ∙ sym (append_assoc (take R s) (line_feed ∷ record_lines R i (drop R s)) (line_at R s (suc i)))

line_long : (R i : ℕ) (s : List ℕ) → i * R + R ≤ length s → length (line_at R s i) ≡ R + 1
line_long R i s h = length-append (take R (drop (i * R) s)) (line_feed ∷ []) ∙ rw (length_part s (i * R) R h)

pub lines_long : (R n : ℕ) (s : List ℕ) → n * R ≤ length s → length (record_lines R n s) ≡ n * R + n
unfolding record_lines
lines_long R zero s h = omega (arith, zero-mul R)
lines_long R (suc n) s h =
    let r = lines_long R n s (omega (arith, suc-mul n R)) in
    ap length (lines_more R n s) ∙ length-append (record_lines R n s) (line_at R s n) ∙ rw (r, line_long R n s (omega (arith, suc-mul n R))) (omega (arith, suc-mul n R))

-- what lies behind the records does not matter
pub lines_front : (R n : ℕ) (xs ys : List ℕ) → n * R ≤ length xs → record_lines R n (xs ++ ys) ≡ record_lines R n xs
unfolding record_lines
lines_front R zero xs ys h = refl
lines_front R (suc n) xs ys h =
    let l : R ≤ length xs = omega (arith, suc-mul n R) in
    let m : n * R ≤ length (drop R xs) = rw length-drop (omega (arith, suc-mul n R)) in
    rw (take-append-le R xs ys l, drop-append-le R xs ys l, lines_front R n (drop R xs) ys m)

-- ---- the loop

-- i records were put
pub record Listed (R count : ℕ) (s d₀ d : List ℕ) (i : ℕ) : Type 0 where
  pub room : count * R ≤ length s
  pub space : count * R + count ≤ length d₀
  pub is : d ≡ splice d₀ 0 (record_lines R i s)

pub listed_none : {R count : ℕ} {s d : List ℕ} → count * R ≤ length s → count * R + count ≤ length d → Listed R count s d d 0
unfolding record_lines
listed_none {R} {count} {s} {d} a b = record { room = a; space = b; is = sym (splice_nothing d 0) }

module _ {R count : ℕ} {s d₀ d : List ℕ} {i : ℕ} (w : Listed R count s d₀ d i) where
  pub listed_more : i < count → length d ≡ length d₀ → {k : ℕ} {copied : List ℕ} → k ≡ R → copied ≡ take R (drop (i * R) s)
      → Listed R count s d₀ (set (put_mid (i * (R + 1)) k d copied) (i * (R + 1) + R) line_feed) (i + 1)
  listed_more h same {k} {copied} a b =
      let at : ℕ = i * (R + 1) in
      let part : List ℕ = take R (drop (i * R) s) in
      let at_is : i * (R + 1) ≡ i * R + i = rw (add-one R) (mul-suc i R) in
      let from : i * R + R ≤ length s = omega (arith, w.room, mul-le-mul_right R h, suc-mul i R) in
      let end : i * (R + 1) + R + 1 ≤ length d₀ = omega (arith, w.space, at_is, mul-le-mul_right R h, suc-mul i R) in
      let long : length (record_lines R i s) ≡ at = lines_long R i s (omega arith) ∙ sym at_is in
      let wide : length part ≡ R = length_part s (i * R) R from in
      let e : put_mid at k d copied ≡ splice d at part = rw b (mid_splice d at part (a ∙ sym wide)) in
      let f : put_mid at k d copied ≡ splice d₀ 0 (record_lines R i s ++ part) = splice_then d₀ d (put_mid at k d copied) 0 at (record_lines R i s) part w.is e (omega arith) (omega arith) in
      let q : length (record_lines R i s ++ part) ≡ at + R = length-append (record_lines R i s) part ∙ rw (long, wide) in
      let kept : length (put_mid at k d copied) ≡ length d = ap length e ∙ length_splice d at part (omega arith) in
      let g : set (put_mid at k d copied) (at + R) line_feed ≡ splice d₀ 0 ((record_lines R i s ++ part) ++ (line_feed ∷ [])) =
      splice_then d₀ (put_mid at k d copied) (set (put_mid at k d copied) (at + R) line_feed) 0 (at + R) (record_lines R i s ++ part) (line_feed ∷ []) f
      (splice_one (put_mid at k d copied) (at + R) line_feed (omega arith)) (omega arith) (omega arith) in
      let n : (record_lines R i s ++ part) ++ (line_feed ∷ []) ≡ record_lines R (i + 1) s =
      append_assoc (record_lines R i s) part (line_feed ∷ []) ∙ rw (add-one i) (sym (lines_more R i s)) in
      record { room = w.room; space = w.space; is = g ∙ ap (splice d₀ 0) n }

  pub listed_all : count ≤ i → i ≤ count → (d ≡ splice d₀ 0 (record_lines R count s)) × (count * R + count ≡ length (record_lines R count s))
  listed_all h g =
      let e : i ≡ count = omega arith in
      (w.is ∙ ap (λ (k : ℕ). splice d₀ 0 (record_lines R k s)) e, sym (lines_long R count s w.room))
