-- What becomes of a call, from what holds of it: contents gathered on its walk are accepted, and the row that is met answers.
-- Assumes nothing.
use mathlib.Core.Path.{◌≡◌, refl, ap, ◌∙◌}
use mathlib.Core.List.{List}
use Prim.Native.Nat.{ℕ}
use Rattle.format_items.specs.Items.{Items}
use Rattle.list_elements.specs.Contents.{Content}
use Rattle.sheet_walk.specs.Walk.{Trace}
use Rattle.sheet_walk.specs.declared.Refusal.{Refusal}
use Rattle.sheet_walk.specs.declared.Refusal.TheVariants.{FieldText}
use Rattle.sheet_rows.proofs.RowLaws.{row_answers}
use Rattle.read_passes.specs.Given.{gathered}
use Rattle.read_passes.proofs.GatheredLaws.{Refuses, gathers_so, refuses_so, readable_gathers, readable_refuses}
use Rattle.sheet_walk.specs.Answers.{answer_number, answer_place}
use Rattle.sheet_read.specs.Reading.{Reading, accepts, refuses, concluded, reading_of, answer_of}
use Rattle.sheet_read.specs.Promises.{Call, kinds_of, becomes, answer_to, Walks, RowBefore, walk_of, UnreadableAt, AcceptableCall, AnsweredBy}
use Rattle.sheet_read.proofs.Calls.{GathersOn, RefusesOn, rows_said, walk_is}

-- the first field that gives nothing refuses the walk
unreadable_refuses : (c : Call) {i : ℕ} {t : Trace} → UnreadableAt c i t → RefusesOn c t (FieldText i)
unreadable_refuses c (UnreadableAt.here q e) = Refuses.unreadable q e
unreadable_refuses c (UnreadableAt.there r u) = Refuses.after r (unreadable_refuses c u)

-- ---- what becomes of a call that passes the rows before

module _ (c : Call) where
  past_rows : (xs : Items) → Walks c xs → becomes c ≡ concluded (gathered c.R (kinds_of c) c.records (walk_of c xs))
  unfolding reading_of
  past_rows xs w = rw ((rows_said c).passes_only (xs, w), walk_is c xs w)

  -- contents that are gathered on its walk are accepted
  pub passes : (t : Trace) (cs : List Content) (n : ℕ) → AcceptableCall c t n → GathersOn c t cs n → becomes c ≡ accepts cs n
  passes t cs n a g = past_rows a.xs a.walks ∙ rw (← a.is, gathers_so g)

  -- a walk refused refuses the call
  walk_refuses : (xs : Items) (why : Refusal) → Walks c xs → RefusesOn c (walk_of c xs) why → becomes c ≡ refuses why
  walk_refuses xs why w r = past_rows xs w ∙ ap concluded (refuses_so r)

  -- ---- what it answers

  -- the number k and the place p
  abbrev pub AnswersSo : ℕ → ℕ → Type 0
  AnswersSo k p = (answer_number (answer_to c) ≡ k) × (answer_place (answer_to c) ≡ p)

  answers_as : {r : Reading} → becomes c ≡ r → AnswersSo (answer_number (answer_of r)) (answer_place (answer_of r))
  answers_as e = (ap (λ r. answer_number (answer_of r)) e, ap (λ r. answer_place (answer_of r)) e)

  -- a row before the walk
  row_before : {k p : ℕ} → RowBefore c k p → AnswersSo k p
  unfolding reading_of
  row_before {k} {p} a = row_answers refuses answer_of (λ why. refl) _ ((rows_said c).answers_only k p a)

-- the row that is met answers, and no other
pub meets_only : (c : Call) {k p : ℕ} → AnsweredBy c k p → AnswersSo c k p
meets_only c (AnsweredBy.acceptable {t} {n} a) =
    let g = readable_gathers {R = c.R} {kinds = kinds_of c} {records = c.records} a.ends a.readable in
    answers_as c (passes c t g.0 n a g.1)
meets_only c (AnsweredBy.row_before a) = row_before c a
meets_only c (AnsweredBy.refused_walk {xs} {why} w s all) = answers_as c (walk_refuses c xs why w (readable_refuses s all))
meets_only c (AnsweredBy.unreadable {xs} {i} w u) = answers_as c (walk_refuses c xs (FieldText i) w (unreadable_refuses c u))
