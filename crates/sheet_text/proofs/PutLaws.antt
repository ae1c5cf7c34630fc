-- Pieces put one after the other, and the last lines of the output.
-- Assumes nothing.
use mathlib.Core.Path.{◌≡◌, sym, ap, ◌∙◌}
use mathlib.Core.List.{List, [], ◌∷◌, ◌++◌, append_assoc}
use Prim.Native.Nat.{ℕ, ◌+◌, ◌≤◌}
use native.Mathlib.Omega.{arith}
use lib.ListN.{length, take, drop, length-append}
use lib.Seq.{take_all, drop-drop, take-append-le, length-take-le}
use borrow.Rule.Slice.PartMut.{put_mid}
use Rattle.buffer.specs.Characters.{blank, bytes}
use Rattle.buffer.specs.Splice.{splice}
use Rattle.buffer.proofs.SpliceBytes.{length_splice}
use Rattle.list_text.specs.Lines.{line_feed}
use Rattle.sheet_text.specs.Output.{decimal_digits, counts_line, refused_line}

-- what stands before the offset, and the bytes laid there
pub take_splice : (d : List ℕ) (at : ℕ) (xs : List ℕ) → at + length xs ≤ length d → take (at + length xs) (splice d at xs) ≡ take at d ++ xs
unfolding splice
take_splice d at xs h =
    let l : length (take at d ++ xs) ≡ at + length xs = length-append (take at d) xs ∙ rw (length-take-le at d (omega arith)) in
    take-append-le (at + length xs) (take at d ++ xs) (drop (at + length xs) d) (omega arith) ∙ take_all (at + length xs) (take at d ++ xs) (omega arith)

-- bytes copied into a part
pub mid_splice : (d : List ℕ) (at : ℕ) (xs : List ℕ) {k : ℕ} → k ≡ length xs → put_mid at k d xs ≡ splice d at xs
unfolding splice
mid_splice d at xs {k} e =
    sym (append_assoc (take at d) xs (drop k (drop at d))) ∙ ap (λ (l : List ℕ). take at d ++ xs ++ l) (rw e (drop-drop (length xs) at d))

pub counts_are : (n k : ℕ) → ((((([] ++ bytes "records ") ++ decimal_digits n) ++ bytes " starred ") ++ decimal_digits k) ++ (line_feed ∷ [])) ≡ counts_line n k
unfolding counts_line
counts_are n k = simp append_assoc

pub refused_are : (number place : ℕ) → ((((([] ++ bytes "refused ") ++ decimal_digits number) ++ (blank ∷ [])) ++ decimal_digits place) ++ (line_feed ∷ [])) ≡ refused_line number place
unfolding refused_line
refused_are number place = simp append_assoc

-- the output's buffer keeps its length
pub output_room : (d xs : List ℕ) {d₁ : List ℕ} {r : ℕ} → d₁ ≡ splice d 0 xs → r ≡ length xs → r ≤ length d → r ≤ length d₁
output_room d xs e l h = rw (e, length_splice d 0 xs (omega arith)) h
