-- The bytes that a walk leaves, column by column: those of the last placement that covers it, else a blank.
-- Assumes nothing.
use mathlib.Core.Path.{◌≡◌, sym, ap, ◌∙◌}
use mathlib.Core.Logic.{inl, inr}
use mathlib.Core.List.{List}
use Prim.Native.Nat.{ℕ, ◌+◌, ◌-◌, ◌*◌, ◌<◌, ◌≤◌}
use native.Mathlib.Decide.{dec_lt}
use native.Mathlib.Omega.{arith}
use lib.ListN.{length, drop, get_or, replicate, length-replicate, get_or-replicate}
use lib.Seq.{drop_at}
use Rattle.buffer.specs.Characters.{blank}
use Rattle.buffer.specs.Splice.{splice}
use Rattle.sheet_walk.specs.Steps.{Placement}
use Rattle.sheet_walk.specs.Walk.{Trace, put}
use Rattle.sheet_walk.specs.Columns.{Covers, In, LastCovers, Uncovered}
use Rattle.sheet_walk.specs.Laid.{offset, offset_of, laid, blanked, written}
use Rattle.sheet_walk.specs.Promises.{Inside}
use Rattle.buffer.proofs.SpliceBytes.{length_splice, splice_inside}
use Rattle.sheet_walk.proofs.Windows.{record-room, inside_room, Outside, AllFit, laid_outside}

-- ---- n records blanked

pub length_blanked : (R n : ℕ) (buffer : List ℕ) → n * R ≤ length buffer → length (blanked R n buffer) ≡ length buffer
unfolding blanked
length_blanked R n buffer h = length_splice buffer 0 (replicate (n * R) blank) (rw length-replicate (omega arith))

pub drop_blanked : (R n : ℕ) (buffer : List ℕ) → drop (n * R) (blanked R n buffer) ≡ drop (n * R) buffer
unfolding blanked splice
drop_blanked R n buffer =
    let xs : List ℕ = replicate (n * R) blank in
    let l : length xs ≡ n * R = length-replicate (n * R) blank in
    let k : 0 + length xs ≡ n * R = omega arith in
    drop_at xs (drop (0 + length xs) buffer) (n * R) l ∙ ap (λ (i : ℕ). drop i buffer) k

get_or_blanked : (R n : ℕ) (buffer : List ℕ) → n * R ≤ length buffer → (i : ℕ) → i < n * R → get_or (blanked R n buffer) i 0 ≡ blank
unfolding blanked
get_or_blanked R n buffer h i l =
    let xs : List ℕ = replicate (n * R) blank in
    let m : length xs ≡ n * R = length-replicate (n * R) blank in
    let z : 0 + i ≡ i = omega arith in
    ap (λ (k : ℕ). get_or (splice buffer 0 xs) k 0) (sym z) ∙ splice_inside buffer 0 xs (omega arith) i (omega arith) ∙ get_or-replicate (n * R) i blank 0 l

-- ---- one column

-- where a placement does not cover a column, the column's byte is none of its
outside_column : (R n : ℕ) (q : Placement) → Inside R n q → (r c : ℕ) → 1 ≤ c → c ≤ R → (Covers q r c → ⊥) → Outside (offset_of R q) q.width (offset R r c)
outside_column R n q i r c from to none = go (dec_lt r q.row) (dec_lt q.row r) (dec_lt c q.column) (dec_lt c (q.column + q.width))
  where
    go : Dec (r < q.row) → Dec (q.row < r) → Dec (c < q.column) → Dec (c < q.column + q.width) → Outside (offset_of R q) q.width (offset R r c)
    go (yes l) b d e = inl (omega (arith, record-room r q.row R l, i.from))
    go (no l) (yes k) d e = inr (omega (arith, record-room q.row r R k, i.from, i.to))
    go (no l) (no k) (yes d) e = let s : q.row ≡ r = omega arith in inl (omega (arith, ap (λ (j : ℕ). j * R) s))
    go (no l) (no k) (no d) (no e) = let s : q.row ≡ r = omega arith in inr (omega (arith, i.from, ap (λ (j : ℕ). j * R) s))
    go (no l) (no k) (no d) (yes e) = absurd (none (record { in-record = omega arith; from = omega arith; to = e }))

module _ (R n : ℕ) (characters : Placement → List ℕ) where
  fits_here : (p : Placement) (t : Trace) (buffer : List ℕ) → n * R ≤ length buffer → AllFit R n characters (put p t) → offset_of R p + length (characters p) ≤ length buffer
  fits_here p t buffer room all = let a = all p In.here in omega (arith, inside_room R n p a.0)

  laid_last : {p : Placement} {r c : ℕ} {t : Trace} → LastCovers p r c t → (buffer : List ℕ) → n * R ≤ length buffer → AllFit R n characters t
      → get_or (laid R characters t buffer) (offset R r c) 0 ≡ get_or (characters p) (c - p.column) 0
  unfolding laid
  laid_last {p} {r} {c} (LastCovers.here {t} cov none) buffer room all =
      let a = all p In.here in
      let i = a.0 in
      let fits = fits_here p t buffer room all in
      let l = length_splice buffer (offset_of R p) (characters p) fits in
      let e : offset R r c ≡ offset_of R p + (c - p.column) = omega (arith, i.from, cov.from, ap (λ (j : ℕ). j * R) cov.in-record) in
      laid_outside R n characters t (splice buffer (offset_of R p) (characters p)) (omega arith) (λ q m. all q (In.there m)) (offset R r c)
      (λ q m. outside_column R n q (all q (In.there m)).0 r c (omega (arith, i.from, cov.from)) (omega (arith, i.to, cov.to)) (none q m))
      ∙ ap (λ (j : ℕ). get_or (splice buffer (offset_of R p) (characters p)) j 0) e
      ∙ splice_inside buffer (offset_of R p) (characters p) fits (c - p.column) (omega (arith, cov.from, cov.to))
  laid_last (LastCovers.there {q} {t} last) buffer room all =
      let l = length_splice buffer (offset_of R q) (characters q) (fits_here q t buffer room all) in
      laid_last last (splice buffer (offset_of R q) (characters q)) (omega arith) (λ p m. all p (In.there m))

  -- 'a later item overwrites': the last placement that covers a column has its character there
  pub written_last : {p : Placement} {r c : ℕ} {t : Trace} → LastCovers p r c t → (buffer : List ℕ) → n * R ≤ length buffer → AllFit R n characters t
      → get_or (written R characters t n buffer) (offset R r c) 0 ≡ get_or (characters p) (c - p.column) 0
  unfolding written
  written_last last buffer room all =
      let l = length_blanked R n buffer room in
      laid_last last (blanked R n buffer) (omega arith) all

  -- 'Each is blank apart from what was put there'
  pub written_blank : (r c : ℕ) (t : Trace) → r < n → 1 ≤ c → c ≤ R → Uncovered r c t → (buffer : List ℕ) → n * R ≤ length buffer → AllFit R n characters t
      → get_or (written R characters t n buffer) (offset R r c) 0 ≡ blank
  unfolding written
  written_blank r c t h from to none buffer room all =
      let l = length_blanked R n buffer room in
      laid_outside R n characters t (blanked R n buffer) (omega arith) all (offset R r c) (λ p m. outside_column R n p (all p m).0 r c from to (none p m))
      ∙ get_or_blanked R n buffer room (offset R r c) (omega (arith, record-room r n R h))
