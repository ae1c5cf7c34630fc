-- What the theorems of proofs/RowLaws.antt say of the rows before the walk.
-- Assumes nothing.
use Rattle.list_elements.specs.Limits.{ListCheck, good, bad}
use Rattle.std.specs.Prelude.{◌≡◌, List, ℕ, ◌<◌}
use Rattle.format_items.specs.Items.{Items}
use Rattle.format_grammar.specs.Check.{outcome}
use Rattle.format_grammar.specs.Promises as grammar
use Rattle.format_grammar.specs.Promises.{Acceptable}
use Rattle.sheet_walk.specs.Refusals.{refusal_number, refusal_place}
use Rattle.sheet_walk.specs.Promises.{WidthRight}
use Rattle.sheet_walk.specs.declared.Refusal.{Refusal}
use Rattle.sheet_rows.specs.Rows.{Row, passed, refused, element_row, format_row, rows_before}

-- ---- which row answers, with its number and its place: 'Rows apply in this order down to the first walk row'

-- every row before the walk is passed: R is right, the format's rows and the list's are passed (`FormatPasses`, `ListPasses`), and
-- there are n records, at least one
pub record RowsPassed (R : ℕ) (FormatPasses ListPasses : Type 0) (n : ℕ) : Type 0 where
  pub width : WidthRight R
  pub format : FormatPasses
  pub list : ListPasses
  pub some_record : 0 < n

-- a row before the walk answers, those before it being passed; `FormatAnswers` and `ListAnswers` say which of the format's rows and
-- of the list's does
pub data RowAnswers (R : ℕ) (FormatPasses : Type 0) (FormatAnswers : ℕ → ℕ → Type 0) (ListPasses : Type 0) (ListAnswers : ℕ → ℕ → Type 0) (n : ℕ) : ℕ → ℕ → Type 0 where
  wrong_width : (WidthRight R → ⊥) → RowAnswers R FormatPasses FormatAnswers ListPasses ListAnswers n 1 0
  wrong_format : {k p : ℕ} → WidthRight R → FormatAnswers k p → RowAnswers R FormatPasses FormatAnswers ListPasses ListAnswers n k p
  wrong_list : {k p : ℕ} → WidthRight R → FormatPasses → ListAnswers k p → RowAnswers R FormatPasses FormatAnswers ListPasses ListAnswers n k p
  no_record : WidthRight R → FormatPasses → ListPasses → n ≡ 0 → RowAnswers R FormatPasses FormatAnswers ListPasses ListAnswers n 9 0

-- one of rows 2 to 5 answers
pub data FormatRefused (text : List ℕ) : ℕ → ℕ → Type 0 where
  bad_format : {k p : ℕ} → (k ≡ 0 → ⊥) → grammar.AnsweredBy text k p → FormatRefused text k p

-- row 6 answers
pub data ElementRefused (check : ListCheck) : ℕ → ℕ → Type 0 where
  bad_element : {p : ℕ} → check ≡ bad p → ElementRefused check 6 p

-- ---- the definition says the same

-- what some rows say, in the terms above: they are passed, or one answers
pub data RowTold (Passes : Type 0) (Answers : ℕ → ℕ → Type 0) : Row → Type 0 where
  passes : Passes → RowTold Passes Answers passed
  answers : {why : Refusal} → Answers (refusal_number why) (refusal_place why) → RowTold Passes Answers (refused why)

-- they refuse with the number k and the place p
pub record RefusedWith (row : Row) (k p : ℕ) : Type 0 where
  pub why : Refusal
  pub is : row ≡ refused why
  pub number_is : refusal_number why ≡ k
  pub place_is : refusal_place why ≡ p

-- they are passed exactly where `Passes` holds, and refuse with the number and the place for which `Answers` holds, and with no
-- other
pub record Says (row : Row) (Passes : Type 0) (Answers : ℕ → ℕ → Type 0) : Type 0 where
  pub told : RowTold Passes Answers row
  pub passes_only : Passes → row ≡ passed
  pub answers_only : (k p : ℕ) → Answers k p → RefusedWith row k p

-- rows 2 to 5, by the format check
abbrev pub FormatRowSays : Type 0
FormatRowSays = (text : List ℕ) → Says (format_row (outcome text)) ((xs : Items) × Acceptable text xs) (FormatRefused text)

-- row 6, by the list's check
abbrev pub ElementRowSays : Type 0
ElementRowSays = (check : ListCheck) → Says (element_row check) (check ≡ good) (ElementRefused check)

-- the rows before the walk, whatever the format's rows and the list's are
abbrev pub RowsSay : Type 1
RowsSay =
    (R : ℕ) (format list : Row) (FormatPasses : Type 0) (FormatAnswers : ℕ → ℕ → Type 0) (ListPasses : Type 0) (ListAnswers : ℕ → ℕ → Type 0) (n : ℕ)
    → Says format FormatPasses FormatAnswers
    → Says list ListPasses ListAnswers
    → Says (rows_before R format list n) (RowsPassed R FormatPasses ListPasses n) (RowAnswers R FormatPasses FormatAnswers ListPasses ListAnswers n)

-- under a format's text, accepted as some items
abbrev pub TextRowsSay : Type 1
TextRowsSay =
    (R : ℕ) (text : List ℕ) (list : Row) (ListPasses : Type 0) (ListAnswers : ℕ → ℕ → Type 0) (n : ℕ) → Says list ListPasses ListAnswers
    → Says (rows_before R (format_row (outcome text)) list n) ((xs : Items) × RowsPassed R (Acceptable text xs) ListPasses n)
    (RowAnswers R ((xs : Items) × Acceptable text xs) (FormatRefused text) ListPasses ListAnswers n)
