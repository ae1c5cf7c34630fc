-- The bytes that a walk leaves: in the columns of its placements, and elsewhere.
-- Assumes nothing.
use mathlib.Core.Path.{◌≡◌, refl, sym, ap, ◌∙◌}
use mathlib.Core.Bool.{Bool, true, false}
use mathlib.Core.Logic.{◌⊎◌, inl, inr}
use mathlib.Core.List.{List}
use Prim.Native.Nat.{ℕ, ◌+◌, ◌*◌, ◌<◌, ◌≤◌, min}
use native.Mathlib.Nat.{suc-mul, mul-le-mul_right}
use native.Mathlib.Decide.{dec_lt}
use native.Mathlib.Omega.{arith}
use borrow.Author.Tests.{ltb-false, eqb-true, eqb-false}
use lib.Dec.{eqb}
use lib.ListN.{length, drop, get_or, length-take, length-drop}
use lib.Seq.{get_or-take, get_or-drop, ext_get_or}
use Rattle.buffer.specs.Splice.{splice}
use Rattle.sheet_walk.specs.Steps.{Placement}
use Rattle.sheet_walk.specs.Walk.{Trace, put, done, stopped}
use Rattle.sheet_walk.specs.Columns.{In, here, there, share, shares_with, covered_twice}
use Rattle.sheet_walk.specs.Laid.{offset_of, laid, columns}
use Rattle.sheet_walk.specs.Promises.{Inside, ColumnsKept}
use Rattle.buffer.proofs.SpliceBytes.{length_splice, splice_before, splice_inside, splice_after}
use Rattle.sheet_walk.proofs.Twice.{apart_in, meeting}
use Rattle.std.proofs.lemmas.Bool.{or_parts}

-- ---- where placements stand in a buffer

-- a whole record stands after the records before it
pub record-room : (r n R : ℕ) → r < n → r * R + R ≤ n * R
record-room r n R h = rw (← suc-mul r R) (mul-le-mul_right R h)

-- a placement inside n records stands inside n * R bytes
pub inside_room : (R n : ℕ) (p : Placement) → Inside R n p → offset_of R p + p.width ≤ n * R
inside_room R n p i = omega (arith, record-room p.row n R i.in-record)

-- the byte at i is none of the m from at on
abbrev pub Outside : ℕ → ℕ → ℕ → Type 0
Outside at m i = (i < at) ⊎ (at + m ≤ i)

-- a byte of p's columns is none of q's where the two share no column
pub apart : (R n : ℕ) (p q : Placement) → Inside R n p → Inside R n q → share p q ≡ false → (i : ℕ) → i < p.width → Outside (offset_of R q) q.width (offset_of R p + i)
apart R n p q a b e i h = go (eqb p.row q.row) refl
  where
    other_row : Dec (p.row < q.row) → (p.row ≡ q.row → ⊥) → Outside (offset_of R q) q.width (offset_of R p + i)
    other_row (yes l) ne = inl (omega (arith, record-room p.row q.row R l))
    other_row (no l) ne = let g : q.row < p.row = omega arith in inr (omega (arith, record-room q.row p.row R g))

    to : ℕ
    to = min (p.column + p.width) (q.column + q.width)

    same_row : Dec (offset_of R p + i < offset_of R q) → p.row ≡ q.row → to ≤ meeting p q → Outside (offset_of R q) q.width (offset_of R p + i)
    same_row (yes l) r m = inl l
    same_row (no l) r m = inr (omega (arith, ap (λ (k : ℕ). k * R) r))

    go : (t : Bool) → eqb p.row q.row ≡ t → Outside (offset_of R q) q.width (offset_of R p + i)
    go true f = same_row (dec_lt _ _) (eqb-true _ _ f) (ltb-false (meeting p q) to (rw f at e))
    go false f = other_row (dec_lt _ _) (eqb-false _ _ f)

-- ---- the characters of each placement laid in order

module _ (R n : ℕ) (characters : Placement → List ℕ) where
  -- every placement of the walk lies in n records, and its characters are as many as its columns
  abbrev pub AllFit : Trace → Type 0
  AllFit t = (p : Placement) → In p t → Inside R n p × (length (characters p) ≡ p.width)

  -- a buffer after the characters of one placement
  abbrev laid_one : Placement → List ℕ → List ℕ
  laid_one p buffer = splice buffer (offset_of R p) (characters p)

  fits_one : (p : Placement) (t : Trace) (buffer : List ℕ) → n * R ≤ length buffer → AllFit (put p t) → offset_of R p + length (characters p) ≤ length buffer
  fits_one p t buffer room all = let a = all p here in omega (arith, inside_room R n p a.0)

  length_one : (p : Placement) (t : Trace) (buffer : List ℕ) → n * R ≤ length buffer → AllFit (put p t) → length (laid_one p buffer) ≡ length buffer
  length_one p t buffer room all = length_splice buffer (offset_of R p) (characters p) (fits_one p t buffer room all)

  pub length_laid : (t : Trace) (buffer : List ℕ) → n * R ≤ length buffer → AllFit t → length (laid R characters t buffer) ≡ length buffer
  unfolding laid
  length_laid (put p t) buffer room all =
      let l = length_one p t buffer room all in
      length_laid t (laid_one p buffer) (omega arith) (λ q m. all q (there m)) ∙ l
  length_laid (done k) buffer room all = refl
  length_laid (stopped why) buffer room all = refl

  -- a byte of no placement's columns is as it was
  pub laid_outside : (t : Trace) (buffer : List ℕ) → n * R ≤ length buffer → AllFit t → (i : ℕ)
      → ((p : Placement) → In p t → Outside (offset_of R p) p.width i) → get_or (laid R characters t buffer) i 0 ≡ get_or buffer i 0
  unfolding laid
  laid_outside (put p t) buffer room all i out =
      let l = length_one p t buffer room all in
      laid_outside t (laid_one p buffer) (omega arith) (λ q m. all q (there m)) i (λ q m. out q (there m)) ∙ go (out p here)
    where
      go : Outside (offset_of R p) p.width i → get_or (laid_one p buffer) i 0 ≡ get_or buffer i 0
      go (inl h) = splice_before buffer (offset_of R p) (characters p) (fits_one p t buffer room all) i h
      go (inr h) =
          let e = (all p here).1 in
          splice_after buffer (offset_of R p) (characters p) (fits_one p t buffer room all) i (omega arith)
  laid_outside (done k) buffer room all i out = refl
  laid_outside (stopped why) buffer room all i out = refl

  -- the bytes after n records are as they were
  pub drop_laid : (t : Trace) (buffer : List ℕ) → n * R ≤ length buffer → AllFit t → drop (n * R) (laid R characters t buffer) ≡ drop (n * R) buffer
  drop_laid t buffer room all =
      let l = length_laid t buffer room all in
      ext_get_or 0 (drop (n * R) (laid R characters t buffer)) (drop (n * R) buffer) (simp (length-drop, l))
      (λ i h.
      get_or-drop (n * R) (laid R characters t buffer) i 0
      ∙ laid_outside t buffer room all (n * R + i) (λ p m. inr (omega (arith, inside_room R n p (all p m).0)))
      ∙ sym (get_or-drop (n * R) buffer i 0))

  -- where no column is covered twice, each placement's bytes stand where it put them
  pub laid_inside : {p : Placement} {t : Trace} → In p t → (buffer : List ℕ) → n * R ≤ length buffer → AllFit t → covered_twice t ≡ false
      → (i : ℕ) → i < p.width → get_or (laid R characters t buffer) (offset_of R p + i) 0 ≡ get_or (characters p) i 0
  unfolding laid covered_twice
  laid_inside {p} (here {t}) buffer room all once i h =
      let l = length_one p t buffer room all in
      let e = (all p here).1 in
      let once₁ = (or_parts (shares_with p t) (covered_twice t) once).0 in
      laid_outside t (laid_one p buffer) (omega arith) (λ q m. all q (there m)) (offset_of R p + i)
      (λ q m. apart R n p q (all p here).0 (all q (there m)).0 (apart_in p m once₁) i h)
      ∙ splice_inside buffer (offset_of R p) (characters p) (fits_one p t buffer room all) i (omega arith)
  laid_inside (there {q} {t} m) buffer room all once i h =
      let l = length_one q t buffer room all in
      laid_inside m (laid_one q buffer) (omega arith) (λ r k. all r (there k)) (or_parts (shares_with q t) (covered_twice t) once).1 i h

pub columns_kept : ColumnsKept
columns_kept R n characters t buffer once room all p m =
    let out = laid R characters t buffer in
    let l : length out ≡ length buffer = length_laid R n characters t buffer room all in
    let fits = inside_room R n p (all p m).0 in
    let w : length (columns R p out) ≡ p.width = simp (length-take, length-drop) (omega arith) in
    ext_get_or 0 (columns R p out) (characters p) (w ∙ sym (all p m).1)
    (λ i h.
    let hi : i < p.width = omega arith in
    get_or-take p.width (drop (offset_of R p) out) i 0 hi ∙ get_or-drop (offset_of R p) out i 0
    ∙ laid_inside R n characters m buffer room all once i hi)
