-- Laws of lines.
-- Assumes nothing.
use mathlib.Core.Path.{◌≡◌, refl, sym, ap, ◌∙◌}
use mathlib.Core.Bool.{Bool, true, false, cond}
use mathlib.Core.List.{List, [], ◌∷◌}
use mathlib.Core.Logic.{◌⊎◌, inl, inr}
use Prim.Native.Nat.{ℕ, zero, suc, ◌+◌, ◌<◌, ◌≤◌}
use native.Mathlib.Nat.{not-suc-le-zero}
use native.Mathlib.Omega.{arith}
use borrow.Author.Tests.{ltb-false}
use lib.Dec.{eqb, ltb}
use lib.ListN.{length, take, drop, drop_of_length-le}
use lib.Seq.{take_all, drop-nil}
use Rattle.std.proofs.Common.{Bor}
use Rattle.std.specs.List.{position_or_len}
use Rattle.std.specs.Prelude.{Option, None, Some, MatchOption, unwrap_or}
use Rattle.std.specs.Slice.{IsGetRangeResult}
use Rattle.std.proofs.lemmas.List.{take_rest}
use Rattle.std.proofs.lemmas.List.Recursion.{is_position_or_len}
use Rattle.list_text.specs.Lines.{line_feed, first_line, after_line, in_front, lines}
use Rattle.list_text.specs.Promises.{LinesAre}

-- ---- the first line is a part of the text

pub line_short : (s : List ℕ) → length (first_line s) ≤ length s
unfolding first_line
line_short [] = omega arith
line_short (b ∷ s) = go (line_short s) (eqb b line_feed)
  where
    go : length (first_line s) ≤ length s → (t : Bool) → length (cond t [] (b ∷ first_line s)) ≤ suc (length s)
    go r true = omega arith
    go r false = omega arith

pub line_is : (s : List ℕ) → take (length (first_line s)) s ≡ first_line s
unfolding first_line
line_is [] = refl
line_is (b ∷ s) = go (line_is s) (eqb b line_feed)
  where
    go : take (length (first_line s)) s ≡ first_line s → (t : Bool) → take (length (cond t [] (b ∷ first_line s))) (b ∷ s) ≡ cond t [] (b ∷ first_line s)
    go r true = refl
    go r false = ap (λ (l : List ℕ). b ∷ l) r

pub after_is : (s : List ℕ) → drop (length (first_line s) + 1) s ≡ after_line s
unfolding first_line after_line
after_is [] = drop-nil (length (first_line []) + 1)
after_is (b ∷ s) = go (after_is s) (eqb b line_feed)
  where
    go : drop (length (first_line s) + 1) s ≡ after_line s → (t : Bool) → drop (length (cond t [] (b ∷ first_line s)) + 1) (b ∷ s) ≡ cond t s (after_line s)
    go r true = refl
    go r false =
        let e : suc (length (first_line s)) + 1 ≡ suc (length (first_line s) + 1) = omega arith in
        ap (λ (n : ℕ). drop n (b ∷ s)) e ∙ r

-- ---- the lines one by one

lines_front : (b : ℕ) (s : List ℕ) → (0 < length s → lines s ≡ first_line s ∷ lines (after_line s)) → in_front b (lines s) ≡ (b ∷ first_line s) ∷ lines (after_line s)
unfolding lines first_line after_line
lines_front b [] r = refl
lines_front b (c ∷ s) r = ap (in_front b) (r (omega arith))

pub lines_are : LinesAre
unfolding lines first_line after_line
lines_are [] h = absurd (not-suc-le-zero h)
lines_are (b ∷ s) h = go (lines_front b s (lines_are s)) (eqb b line_feed)
  where
    go : in_front b (lines s) ≡ (b ∷ first_line s) ∷ lines (after_line s) → (t : Bool)
        → cond t ([] ∷ lines s) (in_front b (lines s)) ≡ cond t [] (b ∷ first_line s) ∷ lines (cond t s (after_line s))
    go r true = refl
    go r false = r

-- ---- where the first line ends: at the first line feed, or at the end of the text

abbrev pub ends : ℕ → Bool
ends b = eqb b line_feed

line_length : (s : List ℕ) → length (first_line s) ≡ position_or_len ends s
unfolding first_line
line_length s = is_position_or_len (λ l. length (first_line l)) ends refl (λ b l. more b l (eqb b line_feed)) s
  where
    more : (b : ℕ) (l : List ℕ) (t : Bool) → length (cond t [] (b ∷ first_line l)) ≡ cond t 0 (1 + length (first_line l))
    more b l true = refl
    more b l false = omega arith

pub line_to : (s : List ℕ) (o : Option ℕ) → o ≡ cond (ltb (position_or_len ends s) (length s)) (Some (position_or_len ends s)) None → MatchOption o (s ≡ first_line s) (λ end. take end s ≡ first_line s)
line_to s o e = go (ltb (position_or_len ends s) (length s)) refl o e
  where
    go : (t : Bool) → ltb (position_or_len ends s) (length s) ≡ t → (o : Option ℕ) → o ≡ cond t (Some (position_or_len ends s)) None → MatchOption o (s ≡ first_line s) (λ end. take end s ≡ first_line s)
    go true q None e = cc
    go true q (Some end) e = let h : end ≡ position_or_len ends s = cc in rw (h ∙ sym (line_length s)) (line_is s)
    go false q None e =
        let h = ltb-false (position_or_len ends s) (length s) q in
        sym (take_all (length (first_line s)) s (omega (arith, h, line_length s))) ∙ line_is s
    go false q (Some end) e = cc

-- past the line feed, or the end
module _ (s : List ℕ) {line : List ℕ} (is : line ≡ first_line s) where
  pub rest_of : (o : Option (Bor (List ℕ))) → IsGetRangeResult s (length line + 1) (length s) o → (rest : Bor (List ℕ)) → rest.now ≡ [] → (unwrap_or o rest).now ≡ after_line s
  rest_of None p rest e = e ∙ sym (drop_of_length-le s (none p.0)) ∙ ap (λ (l : List ℕ). drop (length l + 1) s) is ∙ after_is s
    where
      none : (length s < length line + 1) ⊎ (length s < length s) → length s ≤ length line + 1
      none (inl h) = omega arith
      none (inr h) = omega arith
  rest_of (Some part) p rest e = p.0.2 ∙ take_rest s (length line + 1) ∙ ap (λ (l : List ℕ). drop (length l + 1) s) is ∙ after_is s

-- ---- the line of the first bytes

pub line_cut : (m : ℕ) (s : List ℕ) → first_line (take m s) ≡ take m (first_line s)
unfolding first_line
line_cut zero s = refl
line_cut (suc m) [] = refl
line_cut (suc m) (b ∷ s) = go (line_cut m s) (eqb b line_feed)
  where
    go : first_line (take m s) ≡ take m (first_line s) → (t : Bool) → cond t [] (b ∷ first_line (take m s)) ≡ take (suc m) (cond t [] (b ∷ first_line s))
    go r true = refl
    go r false = ap (λ (l : List ℕ). b ∷ l) r
