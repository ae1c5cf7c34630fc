-- A line of which no more is read than it takes to refuse it.
-- Assumes nothing.
use mathlib.Core.Path.{◌≡◌, sym, ap, ◌∙◌}
use mathlib.Core.Bool.{true, false}
use mathlib.Core.List.{List}
use Prim.Native.Nat.{ℕ, ◌+◌, ◌<◌, ◌≤◌}
use native.Mathlib.Decide.{dec_lt}
use native.Mathlib.Omega.{arith}
use lib.ListN.{length, take, drop, length-take, length-drop}
use lib.Seq.{take_all, length-take-le}
use Rattle.buffer.proofs.Tests.{no_way}
use Rattle.list_elements.specs.Limits.{within_limits}
use Rattle.list_text.specs.Lines.{first_line}
use Rattle.list_text.specs.ElementLines.{element_on}
use Rattle.list_text.specs.Promises.{longest_line}
use Rattle.list_text.proofs.LineLaws.{line_short, line_cut}
use Rattle.list_text.proofs.Longest.{line_refused}

-- the first bytes of a line that starts at `at`: at most one byte more than the longest line has
module _ (s : List ℕ) (at : ℕ) {read : List ℕ} (e : read ≡ first_line (take (longest_line + 1) (drop at s))) where
  -- the whole line
  abbrev line : List ℕ
  line = first_line (drop at s)

  read_is : read ≡ take (longest_line + 1) line
  read_is = e ∙ line_cut (longest_line + 1) (drop at s)

  -- it lies in the text
  pub read_within : at ≤ length s → at + length read ≤ length s
  read_within h = omega (arith, ap length read_is, length-take (longest_line + 1) line, line_short (drop at s), length-drop at s)

  -- a line that is not too long is read whole
  whole : length line ≤ longest_line → read ≡ line
  whole h = read_is ∙ take_all (longest_line + 1) line (omega arith)

  -- of a longer one enough is read to refuse it, as the whole is
  cut_refused : longest_line < length line → within_limits s (element_on at read) ≡ false
  cut_refused h = rw read_is (line_refused s at (take (longest_line + 1) line) (rw (length-take-le (longest_line + 1) line (omega arith)) (omega arith)))

  pub cut_good : within_limits s (element_on at read) ≡ true → read ≡ line
  cut_good t =
      elim (dec_lt longest_line (length line)) [
        | yes h ↦ no_way (sym (cut_refused h) ∙ t)
        | no h ↦ whole (omega arith)
      ]

  pub cut_bad : within_limits s (element_on at read) ≡ false → within_limits s (element_on at line) ≡ false
  cut_bad t =
      elim (dec_lt longest_line (length line)) [
        | yes h ↦ line_refused s at line h
        | no h ↦ ap (λ (l : List ℕ). within_limits s (element_on at l)) (sym (whole (omega arith))) ∙ t
      ]
