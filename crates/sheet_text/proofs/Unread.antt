-- What lies past the longest input does not matter.
-- Assumes nothing.
use mathlib.Core.Path.{◌≡◌, refl, sym, ap, ◌∙◌}
use mathlib.Core.Bool.{false}
use mathlib.Core.List.{List, ◌++◌}
use Prim.Native.Nat.{ℕ, ◌+◌, ◌<◌}
use native.Mathlib.Decide.{dec_lt}
use native.Mathlib.Omega.{arith}
use lib.ListN.{length, take, drop, take-append-drop}
use lib.Seq.{take_all, length-take-le}
use Rattle.format_grammar.proofs.Promises.{outcome_long}
use Rattle.format_items.specs.Refusals.{longest_format}
use Rattle.format_items.specs.declared.FormatRefusal.TheVariants.{Length}
use Rattle.list_elements.specs.Limits.{bad}
use Rattle.list_elements.specs.declared.Value.{Value}
use Rattle.sheet_walk.specs.Steps.{width_right}
use Rattle.sheet_rows.specs.Rows.{in_order, rows_before}
use Rattle.sheet_write.specs.Writing.{Writing, writing_of}
use Rattle.list_text.specs.Lines.{first_line, after_line}
use Rattle.list_text.specs.ListText.{line_values, line_check}
use Rattle.list_text.specs.Promises.{longest_list}
use Rattle.list_text.proofs.Longest.{line_over, line_ended, after_long, digits_over, long_refused}
use Rattle.sheet_text.specs.Input.{most_width_digits, width_on, input_width, input_format, input_list}
use Rattle.sheet_text.specs.Output.{output_of}
use Rattle.sheet_text.specs.SheetOutput.{record_buffer, sheet_output}
use Rattle.sheet_text.specs.Promises.{longest_input, RestUnread}
use Rattle.sheet_text.proofs.TextLaws.{IsRefused, bad_writing, bad_is_refused, wrong_writing, wrong_is_refused}

-- the output for a width, a format and a list text
unfoldable out : ℕ → List ℕ → List ℕ → List ℕ
out R format text = output_of R text (line_values text) (writing_of R format (line_check text) (line_values text) record_buffer)

-- that of a refused writing depends on nothing else
same_refusal : {w : Writing} → IsRefused w → (R S : ℕ) (a b : List ℕ) (vs ws : List Value) → output_of R a vs w ≡ output_of S b ws w
same_refusal (IsRefused.refused_by why) R S a b vs ws = refl

-- ---- a width that is refused

wide_out : (R : ℕ) (f g a b : List ℕ) → width_right R ≡ false → out R f a ≡ out R g b
unfolding out writing_of rows_before in_order
wide_out R f g a b e = rw e

line_wide : (l : List ℕ) → most_width_digits < length l → width_on l ≡ 0
unfolding width_on
line_wide l h = rw (digits_over most_width_digits l h)

-- ---- a format that is too long

format_out : (R : ℕ) (f g a b : List ℕ) → longest_format < length f → longest_format < length g → out R f a ≡ out R g b
unfolding out
format_out R f g a b h k =
    rw (
      wrong_writing R f (line_check a) (line_values a) record_buffer (outcome_long f h),
      wrong_writing R g (line_check b) (line_values b) record_buffer (outcome_long g k),
    )
    (same_refusal (wrong_is_refused R Length) R R a b (line_values a) (line_values b))

-- ---- a list text that is too long

list_out : (R : ℕ) (f a b : List ℕ) (p : ℕ) → line_check a ≡ bad p → line_check b ≡ bad p → out R f a ≡ out R f b
unfolding out
list_out R f a b p e g =
    rw (e, g, bad_writing R f p (line_values a) record_buffer, bad_writing R f p (line_values b) record_buffer)
    (same_refusal (bad_is_refused R f p) R R a b (line_values a) (line_values b))

-- ---- line by line

-- from the list text on, after a first line and a format that are not too long
rest_list : (R : ℕ) (f s more : List ℕ) → longest_list < length s → out R f (s ++ more) ≡ out R f s
rest_list R f s more h = let w = long_refused s more h in list_out R f (s ++ more) s w.place w.whole w.short

-- from the format on
rest_format : (R : ℕ) (s more : List ℕ) → longest_format + 1 + longest_list < length s → out R (first_line (s ++ more)) (after_line (s ++ more)) ≡ out R (first_line s) (after_line s)
rest_format R s more h = go (dec_lt longest_format (length (first_line s)))
  where
    go : Dec (longest_format < length (first_line s)) → out R (first_line (s ++ more)) (after_line (s ++ more)) ≡ out R (first_line s) (after_line s)
    go (yes long) =
        format_out R (first_line (s ++ more)) (first_line s) (after_line (s ++ more)) (after_line s) (omega (arith, line_over s more)) long
    go (no short) =
        let e = line_ended s more (omega arith) in
        rw (e.0, e.1) (rest_list R (first_line s) (after_line s) more (omega (arith, after_long s)))

-- and whatever follows a long input
rest_input : (s more : List ℕ) → longest_input < length s → sheet_output (s ++ more) ≡ sheet_output s
unfolding sheet_output out
rest_input s more h = go (dec_lt most_width_digits (length (first_line s)))
  where
    go : Dec (most_width_digits < length (first_line s)) → out (input_width (s ++ more)) (input_format (s ++ more)) (input_list (s ++ more)) ≡ out (input_width s) (input_format s) (input_list s)
    go (yes long) =
        let a = line_wide (first_line s) long in
        let b = line_wide (first_line (s ++ more)) (omega (arith, line_over s more)) in
        rw (a, b) (wide_out 0 (input_format (s ++ more)) (input_format s) (input_list (s ++ more)) (input_list s) refl)
    go (no short) =
        let e = line_ended s more (omega arith) in
        rw (e.0, e.1) (rest_format (input_width s) (after_line s) more (omega (arith, after_long s)))

pub rest_unread : RestUnread
rest_unread s k h = go (dec_lt k (length s))
  where
    go : Dec (k < length s) → sheet_output (take k s) ≡ sheet_output s
    go (yes long) =
        let l : length (take k s) ≡ k = length-take-le k s (omega arith) in
        sym (rest_input (take k s) (drop k s) (omega arith)) ∙ ap sheet_output (take-append-drop k s)
    go (no short) = ap sheet_output (take_all k s (omega arith))
