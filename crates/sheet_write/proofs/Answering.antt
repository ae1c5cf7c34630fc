-- What becomes of a call, from the row that it meets: an acceptable call is accepted, and a row whose condition holds answers.
-- Assumes nothing.
use mathlib.Core.Path.{◌≡◌, refl, ap, subst, ◌∙◌}
use mathlib.Core.Bool.{true, cond}
use mathlib.Core.List.{List}
use Prim.Native.Nat.{ℕ, ◌<◌}
use borrow.Author.Tests.{lt-ltb}
use lib.IntN.{ℤ, nat_abs}
use Rattle.number.specs.Limits.{largest}
use Rattle.number.specs.Rounding.{Nearest, rounded_units, too_large}
use Rattle.number.proofs.RoundingLaws.{rounded_is}
use Rattle.format_items.specs.Items.{Field, Items}
use Rattle.list_elements.specs.declared.Decimal.{Decimal}
use Rattle.list_elements.specs.declared.Value.{Value}
use Rattle.list_elements.specs.declared.Value.TheVariants as value
use Rattle.sheet_walk.specs.Steps.{What, element, literal, Placement}
use Rattle.sheet_walk.specs.Promises.{StopsWith}
use Rattle.sheet_walk.specs.Walk.{Trace}
use Rattle.sheet_walk.specs.Columns.{In, here, there}
use Rattle.sheet_walk.specs.declared.Refusal.{Refusal}
use Rattle.sheet_walk.specs.declared.Refusal.TheVariants.{TooLarge}
use Rattle.sheet_rows.proofs.RowLaws.{row_answers}
use Rattle.write_passes.specs.Placed.{value_at, field_too_large, Judged, refused, judged_at, judged}
use Rattle.write_passes.proofs.PlacedLaws.{judged_accepts}
use Rattle.sheet_walk.specs.Answers.{answer_number, answer_place}
use Rattle.sheet_write.specs.Writing.{Writing, accepts, refuses, concluded, walked, writing_of, answer_of}
use Rattle.sheet_write.specs.Promises.{Call, values_of, becomes, answer_to, Walks, RowBefore, walk_of, RoundsWithin, TooLargeAt, AcceptableCall, AnsweredBy}
use Rattle.sheet_write.proofs.Rounds.{rounds_small}
use Rattle.sheet_write.proofs.Calls.{rows_said, walk_is}

-- ---- the check of values over a walk

-- a placement that rounds within the limit leaves the rest to answer
judged_past : (vs : List Value) (p : Placement) (rest : Judged) → RoundsWithin vs p → judged_at vs p.what rest ≡ rest
judged_past vs p rest r = go p.what refl
  where
    go : (what : What) → p.what ≡ what → judged_at vs what rest ≡ rest
    go (element i f) q = rw (rounds_small vs p r i f q)
    go (literal cs) q = refl

-- a walk that stops, with no value too large, is refused as it stops
judged_stops : (vs : List Value) {why : Refusal} {t : Trace} → StopsWith why t → ((p : Placement) → In p t → RoundsWithin vs p) → judged vs t ≡ refused why
unfolding judged
judged_stops vs StopsWith.here all = refl
judged_stops vs (StopsWith.there {p} {t} s) all = judged_past vs p (judged vs t) (all p here) ∙ judged_stops vs s (λ q m. all q (there m))

-- a decimal that rounds beyond the limit is too large
decimal_large : (x : Decimal) (d : ℕ) (r : ℤ) → Nearest x.units x.places d r → largest < nat_abs r → too_large x.units x.places d ≡ true
unfolding too_large
decimal_large x d r n l =
    lt-ltb largest (nat_abs (rounded_units x.units x.places d)) (subst (λ (k : ℤ). largest < nat_abs k) ((rounded_is x.units x.places d r).0 n) l)

value_large : (w d : ℕ) (v : Value) (x : Decimal) → v ≡ value.Decimal x → too_large x.units x.places d ≡ true → field_too_large (Field.F w d) v ≡ true
unfolding field_too_large
value_large w d v x e l = ap (field_too_large (Field.F w d)) e ∙ l

-- the first such answers
judged_large : (vs : List Value) {i : ℕ} {t : Trace} → TooLargeAt vs i t → judged vs t ≡ refused (TooLarge i)
unfolding judged
judged_large vs {i} (TooLargeAt.here {p} {t} {w} {d} {x} {r} q v n l) =
    ap (λ what. judged_at vs what (judged vs t)) q
    ∙ ap (λ b. cond b (refused (TooLarge i)) (judged vs t)) (value_large w d (value_at vs i) x v (decimal_large x d r n l))
judged_large vs (TooLargeAt.there {p} {t} r l) = judged_past vs p (judged vs t) r ∙ judged_large vs l

-- ---- what becomes of a call that passes the rows before

module _ (c : Call) where
  past_rows : (xs : Items) → Walks c xs → becomes c ≡ walked (values_of c) (walk_of c xs)
  unfolding writing_of
  past_rows xs w = rw ((rows_said c).passes_only (xs, w), walk_is c xs w)

  -- an acceptable call is accepted
  pub passes : (t : Trace) (n : ℕ) → AcceptableCall c t n → becomes c ≡ accepts t n
  passes t n a =
      let j = judged_accepts (values_of c) t n a.ends (λ p m. rounds_small (values_of c) p (a.rounds p m)) in
      past_rows a.xs a.walks ∙ rw (← a.is, j)

  -- a walk refused refuses the call
  walk_refuses : (xs : Items) (why : Refusal) → Walks c xs → judged (values_of c) (walk_of c xs) ≡ refused why → becomes c ≡ refuses why
  walk_refuses xs why w e = past_rows xs w ∙ ap (concluded (walk_of c xs)) e

  -- ---- what it answers

  -- the number k and the place p
  abbrev pub AnswersSo : ℕ → ℕ → Type 0
  AnswersSo k p = (answer_number (answer_to c) ≡ k) × (answer_place (answer_to c) ≡ p)

  answers_as : {w : Writing} → becomes c ≡ w → AnswersSo (answer_number (answer_of (values_of c) w)) (answer_place (answer_of (values_of c) w))
  answers_as e = (ap (λ w. answer_number (answer_of (values_of c) w)) e, ap (λ w. answer_place (answer_of (values_of c) w)) e)

  -- a row before the walk
  row_before : {k p : ℕ} → RowBefore c k p → AnswersSo k p
  unfolding writing_of
  row_before {k} {p} a = row_answers refuses (answer_of (values_of c)) (λ why. refl) _ ((rows_said c).answers_only k p a)

-- the row that is met answers, and no other
pub meets_only : (c : Call) {k p : ℕ} → AnsweredBy c k p → AnswersSo c k p
meets_only c (AnsweredBy.acceptable {t} {n} a) = answers_as c (passes c t n a)
meets_only c (AnsweredBy.row_before a) = row_before c a
meets_only c (AnsweredBy.refused_walk {xs} {why} w s all) = answers_as c (walk_refuses c xs why w (judged_stops (values_of c) s all))
meets_only c (AnsweredBy.too_large {xs} {i} w l) = answers_as c (walk_refuses c xs (TooLarge i) w (judged_large (values_of c) l))
