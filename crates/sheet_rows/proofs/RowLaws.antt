-- The rows before the walk: which of them answers.
-- Assumes nothing.
use mathlib.Core.Path.{◌≡◌, refl, sym, ap, subst, ◌∙◌}
use mathlib.Core.Bool.{Bool, true, false, cond}
use mathlib.Core.List.{List, [], ◌∷◌}
use Prim.Native.Nat.{ℕ}
use native.Mathlib.Omega.{arith}
use borrow.Author.Tests.{eq-eqb, ne_eqb, eqb-true, eqb-false}
use lib.Dec.{eqb}
use Rattle.std.specs.Prelude.{Ok, Err}
use Rattle.buffer.proofs.Tests.{no_way}
use Rattle.format_items.specs.Items.{Items}
use Rattle.format_grammar.specs.Check as formats
use Rattle.format_grammar.specs.Promises as grammar
use Rattle.format_grammar.specs.Promises.{Acceptable}
use Rattle.format_grammar.proofs.Promises.{accepts_exactly, always_answered}
use Rattle.format_grammar.proofs.Answering.{numbered, answered_only}
use Rattle.list_elements.specs.Limits.{ListCheck, good}
use Rattle.list_elements.specs.Elements.{Kind}
use Rattle.sheet_walk.specs.Answers.{Answer, answer_number, answer_place}
use Rattle.sheet_walk.specs.Refusals.{refusal_number, refusal_place}
use Rattle.sheet_walk.specs.Steps.{Records, width_right}
use Rattle.sheet_walk.specs.Walk.{sheet, walk}
use Rattle.sheet_walk.specs.Promises.{WidthRight}
use Rattle.sheet_walk.proofs.WidthLaws.{width_wrong, width_passed, width_right_lem}
use Rattle.sheet_walk.specs.declared.Refusal.{Refusal}
use Rattle.sheet_walk.specs.declared.Refusal.TheVariants.{RecordWidth, Format, Element, NoRecord}
use Rattle.sheet_rows.specs.Rows.{Row, passed, refused, then, in_order, width_row, format_row, element_row, record_row, rows_before, after_rows, walk_under}
use Rattle.sheet_rows.specs.Promises.{RowsPassed, RowAnswers, FormatRefused, ElementRefused, RowTold, RefusedWith, Says, FormatRowSays, ElementRowSays, RowsSay, TextRowsSay}

-- ---- the rows before the walk, from what is known of each

module _ (R : ℕ) (format list : Row) (n : ℕ) where
  abbrev rows : Row
  rows = rows_before R format list n

  pub width_refuses : width_right R ≡ false → rows ≡ refused RecordWidth
  unfolding rows_before in_order
  width_refuses e = rw e

  module _ (w : WidthRight R) where
    pub format_refuses : {why : Refusal} → format ≡ refused why → rows ≡ refused why
    unfolding rows_before in_order
    format_refuses e = rw (width_right_lem R w, e)

    module _ (f : format ≡ passed) where
      pub list_refuses : {why : Refusal} → list ≡ refused why → rows ≡ refused why
      unfolding rows_before in_order
      list_refuses e = rw (width_right_lem R w, f, e)

      module _ (l : list ≡ passed) where
        pub record-refuses : n ≡ 0 → rows ≡ refused NoRecord
        unfolding rows_before in_order
        record-refuses e = rw (width_right_lem R w, f, l, eq-eqb n 0 e)

        pub all_passed : (n ≡ 0 → ⊥) → rows ≡ passed
        unfolding rows_before in_order
        all_passed e = rw (width_right_lem R w, f, l, ne_eqb n 0 e)

-- ---- rows 2 to 5

-- a row of the format check that is met answers
format_answers : (text : List ℕ) {k p : ℕ} → (k ≡ 0 → ⊥) → grammar.Answers text k p → RefusedWith (format_row (formats.outcome text)) k p
format_answers text {k} {p} ne a = go (formats.outcome text) refl
  where
    go : (o : formats.Outcome) → formats.outcome text ≡ o → RefusedWith (format_row o) k p
    go (formats.accepted xs) e = absurd (ne (sym a.number_is ∙ ap formats.outcome_number e))
    go (formats.refused why) e =
        record {
          why = Format why;
          is = refl;
          number_is = sym (ap formats.outcome_number e) ∙ a.number_is;
          place_is = sym (ap formats.outcome_place e) ∙ a.place_is;
        }

pub format_row_says : FormatRowSays
format_row_says text =
    record {
      told = told_so (formats.outcome text) refl;
      passes_only = λ p. ap format_row ((accepts_exactly text p.0).1 p.1);
      answers_only = λ k p a. answers a;
    }
  where
    told_so : (o : formats.Outcome) → formats.outcome text ≡ o → RowTold ((xs : Items) × Acceptable text xs) (FormatRefused text) (format_row o)
    told_so (formats.accepted xs) e = RowTold.passes (xs, (accepts_exactly text xs).0 e)
    told_so (formats.refused why) e =
        RowTold.answers (FormatRefused.bad_format (numbered why)
        (subst (λ o. grammar.AnsweredBy text (formats.outcome_number o) (formats.outcome_place o)) e (always_answered text)))

    answers : {k p : ℕ} → FormatRefused text k p → RefusedWith (format_row (formats.outcome text)) k p
    answers (FormatRefused.bad_format ne a) = format_answers text ne (answered_only text a)

-- ---- row 6

pub element_row_says : ElementRowSays
element_row_says check = record { told = told_so check refl; passes_only = λ e. ap element_row e; answers_only = λ k p a. answers a }
  where
    told_so : (k : ListCheck) → check ≡ k → RowTold (check ≡ good) (ElementRefused check) (element_row k)
    told_so (Ok u) e = RowTold.passes e
    told_so (Err p) e = RowTold.answers (ElementRefused.bad_element e)

    answers : {k p : ℕ} → ElementRefused check k p → RefusedWith (element_row check) k p
    answers (ElementRefused.bad_element {p} e) = record { why = Element p; is = ap element_row e; number_is = refl; place_is = refl }

-- ---- what the rows before the walk say

-- of two rows in order the first is passed and the second says the rest, or the first answers
told_then : {P Q : Type 0} {A B : ℕ → ℕ → Type 0} {first rest : Row} → RowTold P A first → (P → RowTold Q B rest) → ((k p : ℕ) → A k p → B k p) → RowTold Q B (then first rest)
told_then (RowTold.passes x) f g = f x
told_then (RowTold.answers {why} a) f g = RowTold.answers (g (refusal_number why) (refusal_place why) a)

module _ (R : ℕ) (format list : Row) (FP : Type 0) (FA : ℕ → ℕ → Type 0) (LP : Type 0) (LA : ℕ → ℕ → Type 0) (n : ℕ) (fs : Says format FP FA) (ls : Says list LP LA) where
  abbrev Passed : Type 0
  Passed = RowsPassed R FP LP n

  abbrev Answered : ℕ → ℕ → Type 0
  Answered = RowAnswers R FP FA LP LA n

  -- the last row, the others being passed
  told_record : WidthRight R → FP → LP → RowTold Passed Answered (in_order (record_row n ∷ []))
  unfolding in_order
  told_record w f l = go (eqb n 0) refl
    where
      go : (b : Bool) → eqb n 0 ≡ b → RowTold Passed Answered (then (cond b (refused NoRecord) passed) passed)
      go true e = RowTold.answers (RowAnswers.no_record w f l (eqb-true n 0 e))
      go false e =
          let ne : n ≡ 0 → ⊥ = eqb-false n 0 e in
          RowTold.passes (record { width = w; format = f; list = l; some_record = omega arith })

  -- the rows after the first
  told_others : WidthRight R → RowTold Passed Answered (in_order (format ∷ list ∷ record_row n ∷ []))
  unfolding in_order
  told_others w = told_then fs.told (λ f. told_then ls.told (told_record w f) (λ k p a. RowAnswers.wrong_list w f a)) (λ k p a. RowAnswers.wrong_format w a)

  told_rows : RowTold Passed Answered (rows_before R format list n)
  unfolding rows_before in_order
  told_rows = go (width_right R) refl
    where
      go : (b : Bool) → width_right R ≡ b → RowTold Passed Answered (then (cond b passed (refused RecordWidth)) (in_order (format ∷ list ∷ record_row n ∷ [])))
      go true e = told_others (width_passed R e)
      go false e = RowTold.answers (RowAnswers.wrong_width (λ w. no_way (sym e ∙ width_right_lem R w)))

  passes_rows : Passed → rows_before R format list n ≡ passed
  passes_rows r = all_passed R format list n r.width (fs.passes_only r.format) (ls.passes_only r.list) (λ z. omega (arith, r.some_record))

  answers_rows : {k p : ℕ} → Answered k p → RefusedWith (rows_before R format list n) k p
  answers_rows (RowAnswers.wrong_width h) = record { why = RecordWidth; is = width_refuses R format list n (width_wrong R h); number_is = refl; place_is = refl }
  answers_rows (RowAnswers.wrong_format {k} {p} w a) =
      let r = fs.answers_only k p a in
      record { why = r.why; is = format_refuses R format list n w r.is; number_is = r.number_is; place_is = r.place_is }
  answers_rows (RowAnswers.wrong_list {k} {p} w f a) =
      let r = ls.answers_only k p a in
      record { why = r.why; is = list_refuses R format list n w (fs.passes_only f) r.is; number_is = r.number_is; place_is = r.place_is }
  answers_rows (RowAnswers.no_record w f l e) =
      record { why = NoRecord; is = record-refuses R format list n w (fs.passes_only f) (ls.passes_only l) e; number_is = refl; place_is = refl }

pub rows_say : RowsSay
rows_say R format list FP FA LP LA n fs ls =
    record {
      told = told_rows R format list FP FA LP LA n fs ls;
      passes_only = passes_rows R format list FP FA LP LA n fs ls;
      answers_only = λ k p a. answers_rows R format list FP FA LP LA n fs ls a;
    }

told_where : {row : Row} {P Q : Type 0} {A : ℕ → ℕ → Type 0} → (P → Q) → RowTold P A row → RowTold Q A row
told_where f (RowTold.passes x) = RowTold.passes (f x)
told_where f (RowTold.answers a) = RowTold.answers a

-- rows passed where P holds are passed where Q does
said_where : {row : Row} {P Q : Type 0} {A : ℕ → ℕ → Type 0} → (P → Q) → (Q → P) → Says row P A → Says row Q A
said_where f g s = record { told = told_where f s.told; passes_only = λ q. s.passes_only (g q); answers_only = s.answers_only }

pub text_rows_say : TextRowsSay
text_rows_say R text list LP LA n says =
    said_where (λ r. (r.format.0, record { width = r.width; format = r.format.1; list = r.list; some_record = r.some_record }))
    (λ r. record { width = r.1.width; format = (r.0, r.1.format); list = r.1.list; some_record = r.1.some_record })
    (rows_say R (format_row (formats.outcome text)) list _ _ LP LA n (format_row_says text) says)

-- ---- what a call answers that a row before the walk refuses

module _ {W : Type 0} (refuses : Refusal → W) (answer : W → Answer) (says : (why : Refusal) → answer (refuses why) ≡ Err why) {row : Row} (walked : W) {k p : ℕ} (r : RefusedWith row k p) where
  pub row_answers : (answer_number (answer (after_rows refuses row walked)) ≡ k) × (answer_place (answer (after_rows refuses row walked)) ≡ p)
  row_answers =
      let e : answer (after_rows refuses row walked) ≡ Err r.why = rw (r.is, says r.why) in
      (ap answer_number e ∙ r.number_is, ap answer_place e ∙ r.place_is)

-- ---- the walk

pub walk_under_lem : (text : List ℕ) (xs : Items) (kinds : List Kind) (rs : Records) → formats.outcome text ≡ formats.accepted xs → walk_under text kinds rs ≡ walk (sheet xs kinds rs)
walk_under_lem text xs kinds rs e = rw e

-- ---- a refused format, and a refused list: nothing after them matters

pub data IsRefused : Row → Type 0 where
  refused_by : (why : Refusal) → IsRefused (refused why)

module _ (R : ℕ) (why : Refusal) where
  -- what the rows say then
  abbrev pub wrong_format : Row
  wrong_format = then (width_row R) (refused why)

  pub wrong_format_lem : (list : Row) (n : ℕ) → rows_before R (refused why) list n ≡ wrong_format
  unfolding rows_before in_order
  wrong_format_lem list n = refl

  pub wrong_format_refused : IsRefused wrong_format
  wrong_format_refused = go (width_row R)
    where
      go : (w : Row) → IsRefused (then w (refused why))
      go passed = IsRefused.refused_by why
      go (refused x) = IsRefused.refused_by x

  module _ (format : Row) where
    pub bad_list : (n : ℕ) → IsRefused (rows_before R format (refused why) n)
    unfolding rows_before in_order
    bad_list n = go (width_row R) format
      where
        go : (w f : Row) → IsRefused (then w (then f (refused why)))
        go passed passed = IsRefused.refused_by why
        go passed (refused x) = IsRefused.refused_by x
        go (refused x) f = IsRefused.refused_by x

    pub bad_same : (n m : ℕ) → rows_before R format (refused why) n ≡ rows_before R format (refused why) m
    unfolding rows_before in_order
    bad_same n m = refl

pub after_refused : {A : Type 0} (refuses : Refusal → A) {row : Row} → IsRefused row → (a b : A) → after_rows refuses row a ≡ after_rows refuses row b
after_refused refuses (IsRefused.refused_by why) a b = refl
