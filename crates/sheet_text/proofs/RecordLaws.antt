-- The records written do not depend on the buffer that they are written into.
-- Assumes nothing.
use mathlib.Core.Path.{◌≡◌, refl, ◌∙◌}
use mathlib.Core.List.{List, [], ◌++◌, append_assoc, append-nil}
use Prim.Native.Nat.{ℕ, ◌+◌, ◌*◌, ◌≤◌}
use native.Mathlib.Omega.{arith}
use lib.ListN.{length, drop, replicate, length-replicate}
use lib.Seq.{take-append-le, drop-append-le, drop-nil}
use Rattle.buffer.specs.Characters.{blank}
use Rattle.buffer.specs.Splice.{splice}
use Rattle.buffer.proofs.SpliceBytes.{length_splice}
use Rattle.sheet_walk.specs.Steps.{Placement}
use Rattle.sheet_walk.specs.Walk.{Trace, put, done, stopped}
use Rattle.sheet_walk.specs.Columns.{In}
use Rattle.sheet_walk.specs.Laid.{offset_of, laid, blanked, written}
use Rattle.sheet_walk.proofs.Windows.{inside_room, AllFit, length_laid}

splice_front : (xs ys : List ℕ) (at : ℕ) (zs : List ℕ) → at + length zs ≤ length xs → splice (xs ++ ys) at zs ≡ splice xs at zs ++ ys
unfolding splice
splice_front xs ys at zs h =
    rw (take-append-le at xs ys (omega arith), drop-append-le (at + length zs) xs ys h) (simp append_assoc)

module _ (R n : ℕ) (characters : Placement → List ℕ) where
  laid_front : (t : Trace) (xs ys : List ℕ) → length xs ≡ n * R → AllFit R n characters t → laid R characters t (xs ++ ys) ≡ laid R characters t xs ++ ys
  unfolding laid
  laid_front (put p t) xs ys l all =
      let a = all p In.here in
      let fits : offset_of R p + length (characters p) ≤ length xs = omega (arith, inside_room R n p a.0, a.1) in
      rw (splice_front xs ys (offset_of R p) (characters p) fits)
      (laid_front t (splice xs (offset_of R p) (characters p)) ys (length_splice xs (offset_of R p) (characters p) fits ∙ l) (λ q m. all q (In.there m)))
  laid_front (done k) xs ys l all = refl
  laid_front (stopped why) xs ys l all = refl

  -- the records by themselves, and what lies behind them
  pub written_front : (t : Trace) (buffer : List ℕ) → AllFit R n characters t → written R characters t n buffer ≡ written R characters t n [] ++ drop (n * R) buffer
  unfolding written blanked splice
  written_front t buffer all =
      let l : length (replicate (n * R) blank) ≡ n * R = length-replicate (n * R) blank in
      let e : 0 + n * R ≡ n * R = omega arith in
      let z : ◌≡◌ {A = List ℕ} (drop (n * R) []) [] = drop-nil (n * R) in
      rw (l, e, z, append-nil (replicate (n * R) blank)) (laid_front t (replicate (n * R) blank) (drop (n * R) buffer) l all)

  pub written_long : (t : Trace) → AllFit R n characters t → length (written R characters t n []) ≡ n * R
  unfolding written blanked splice
  written_long t all =
      let l : length (replicate (n * R) blank) ≡ n * R = length-replicate (n * R) blank in
      let e : 0 + n * R ≡ n * R = omega arith in
      let z : ◌≡◌ {A = List ℕ} (drop (n * R) []) [] = drop-nil (n * R) in
      rw (l, e, z, append-nil (replicate (n * R) blank)) (length_laid R n characters t (replicate (n * R) blank) (omega arith) all ∙ l)
