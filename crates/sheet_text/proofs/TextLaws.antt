-- Writing from a list text.
-- Assumes nothing.
use mathlib.Core.Path.{◌≡◌, refl, sym, ap, ◌∙◌}
use mathlib.Core.List.{List, [], map}
use Prim.Native.Nat.{ℕ, ◌*◌, ◌/◌, ◌≤◌}
use native.Mathlib.Nat.{mul-le-mul_left, mul-one}
use native.Mathlib.Omega.{arith}
use mathlib.Core.Bool.{true}
use lib.ListN.{length, take}
use Rattle.std.specs.List.{take-map}
use Rattle.std.specs.Prelude.{Ok, Err, All}
use Rattle.format_grammar.specs.Check.{refused, outcome}
use Rattle.format_items.specs.declared.FormatRefusal.{FormatRefusal}
use Rattle.list_elements.specs.Elements.{kind_of, value_of, values, most_elements}
use Rattle.list_elements.specs.Limits.{ListCheck, good, bad, within_limits, list_check}
use Rattle.list_elements.proofs.GoodLaws.{check_good, good_all}
use Rattle.list_elements.specs.declared.Element.{Element}
use Rattle.list_elements.specs.Contents.{list_of}
use Rattle.list_elements.proofs.ContentLaws.{values_list}
use Rattle.list_elements.specs.declared.Value.{Value}
use Rattle.list_elements.specs.declared.List as carried
use Rattle.sheet_walk.specs.declared.Refusal.{Refusal}
use Rattle.sheet_walk.specs.declared.Refusal.TheVariants as refusal
use Rattle.sheet_walk.specs.declared.Refusal.TheVariants.{RecordWidth, Format}
use Rattle.sheet_rows.specs.Rows.{Row, format_row, element_row, after_rows, walk_under}
use Rattle.sheet_rows.proofs.RowLaws as row
use Rattle.sheet_rows.proofs.RowLaws.{wrong_format, wrong_format_lem, wrong_format_refused, bad_list, bad_same, after_refused}
use Rattle.sheet_write.specs.Writing.{Writing, accepts, refuses, walked, writing_of, writing, answer_of}
use Rattle.sheet_write.specs.Promises.{Call, becomes}
use Rattle.sheet_write.proofs.Promises.{accepts_exactly, records_reached}
use Rattle.sheet_walk.specs.Walk.{Trace}
use Rattle.sheet_walk.specs.Answers.{answer_records}
use Rattle.list_text.specs.ListText.{line_values, line_check, list_read, line_read}
use Rattle.sheet_text.specs.FromListText.{writing_from, answer_from}
use Rattle.sheet_text.specs.Promises.{WritingFromIs}
use Rattle.sheet_walk.specs.Steps.{records_in}

-- ---- the list of a list text

pub text_list_check : (text : List ℕ) → list_check text (list_of (line_values text)) ≡ line_check text
unfolding list_of line_check
text_list_check text = rw (values_list (line_values text))

becomes_writing : (R : ℕ) (format text : List ℕ) (B : ℕ) → writing_from R format text B ≡ writing R format (list_of (line_values text)) text B
becomes_writing R format text B = rw (text_list_check text, values_list (line_values text))

pub writing_from_is : WritingFromIs
writing_from_is =
    record {
      checks = λ text. sym (text_list_check text);
      becomes = becomes_writing;
      answers = λ R format text buffer. rw (text_list_check text, values_list (line_values text));
      bytes = λ R format text buffer. rw (text_list_check text, values_list (line_values text));
    }

-- ---- a list that row 6 refuses

-- what becomes of it: whatever its values and the buffer, it is refused
pub bad_writing : (R : ℕ) (format : List ℕ) (p : ℕ) (vs : List Value) (B : ℕ) → writing_of R format (bad p) vs B ≡ writing_of R format (bad p) [] 0
unfolding writing_of
bad_writing R format p vs B =
    ap (λ (w : Row). after_rows refuses w (walked vs (walk_under format (map kind_of vs) (records_in R B)))) (bad_same R (refusal.Element p) (format_row (outcome format)) (B / R) (0 / R))
    ∙ after_refused refuses (bad_list R (refusal.Element p) (format_row (outcome format)) (0 / R)) _ _

-- refused, so that neither the values nor the buffer before matter
pub data IsRefused : Writing → Type 0 where
  refused_by : (why : Refusal) → IsRefused (refuses why)

after_is_refused : {w : Row} (walk : Writing) → row.IsRefused w → IsRefused (after_rows refuses w walk)
after_is_refused walk (row.IsRefused.refused_by why) = IsRefused.refused_by why

pub bad_is_refused : (R : ℕ) (format : List ℕ) (p : ℕ) → IsRefused (writing_of R format (bad p) [] 0)
unfolding writing_of
bad_is_refused R format p = after_is_refused _ (bad_list R (refusal.Element p) (format_row (outcome format)) (0 / R))

-- under a format that is refused
abbrev pub format_refused : ℕ → FormatRefusal → Writing
format_refused R why = after_rows refuses (wrong_format R (Format why)) (refuses RecordWidth)

pub wrong_writing : (R : ℕ) (format : List ℕ) (check : ListCheck) (vs : List Value) (B : ℕ) {why : FormatRefusal} → outcome format ≡ refused why
    → writing_of R format check vs B ≡ format_refused R why
unfolding writing_of
wrong_writing R format check vs B {why} e =
    rw (e, wrong_format_lem R (Format why) (element_row check) (B / R)) (after_refused refuses (wrong_format_refused R (Format why)) _ _)

pub wrong_is_refused : (R : ℕ) (why : FormatRefusal) → IsRefused (format_refused R why)
wrong_is_refused R why = after_is_refused (refuses RecordWidth) (wrong_format_refused R (Format why))

-- ---- the list that is read

module _ (text : List ℕ) where
  -- where row 6 passes, it has the values of the lines, and is good
  pub read_ok : {l : carried.List} → Ok l ≡ line_read text → (line_check text ≡ good) × (l ≡ list_of (line_values text))
  read_ok {l} e = go (line_check text) refl e
    where
      go : (k : ListCheck) → line_check text ≡ k → Ok l ≡ list_read k (line_values text) → (line_check text ≡ good) × (l ≡ list_of (line_values text))
      go (Ok u) g f = (g, cc)
      go (Err p) g f = let z : ⊥ = cc in absurd z

  module _ {l : carried.List} (e : Ok l ≡ line_read text) where
    read_good : list_check text l ≡ good
    read_good = let r = read_ok e in ap (list_check text) r.1 ∙ text_list_check text ∙ r.0

    pub read_few : l.count ≤ most_elements
    read_few = (check_good (within_limits text) l read_good).1

    pub read_within : {es : List Element} → es ≡ take l.count l.elements → All (λ x. within_limits text (value_of x) ≡ true) es
    read_within {es} is = good_all (within_limits text) l es read_good is

    pub read_values : {es : List Element} → es ≡ take l.count l.elements → map value_of es ≡ line_values text
    unfolding values
    read_values {es} is = ap (map value_of) is ∙ sym (take-map value_of l.count l.elements) ∙ ap values (read_ok e).1 ∙ values_list (line_values text)

-- ---- an accepted writing

-- the call of writing with the list of the list text
abbrev pub call_of : ℕ → List ℕ → List ℕ → List ℕ → Call
call_of R format text buffer = record { R = R; format = format; list = list_of (line_values text); area = text; buffer = buffer }

module _ (R : ℕ) (format text buffer : List ℕ) where
  pub text_called : (t : Trace) (n : ℕ) → writing_from R format text (length buffer) ≡ accepts t n → becomes (call_of R format text buffer) ≡ accepts t n
  text_called t n e = sym (becomes_writing R format text (length buffer)) ∙ e

  -- n records of R bytes fit into the buffer, and n is no more than these bytes
  pub text_reached : (t : Trace) (n : ℕ) → writing_from R format text (length buffer) ≡ accepts t n → (n * R ≤ length buffer) × (n ≤ n * R)
  text_reached t n e =
      let a = (accepts_exactly (call_of R format text buffer) t n).0 (text_called t n e) in
      let h : n * 1 ≤ n * R = mul-le-mul_left n a.walks.width.from in
      ((records_reached (call_of R format text buffer) t n (text_called t n e)).3, omega (arith, mul-one n))

  pub text_records : answer_records (answer_from R format text buffer) ≤ length buffer
  text_records = go (writing_from R format text (length buffer)) refl
    where
      go : (w : Writing) → writing_from R format text (length buffer) ≡ w → answer_records (answer_of (line_values text) w) ≤ length buffer
      go (accepts t n) e = let r = text_reached t n e in omega arith
      go (refuses why) e = omega arith
