-- What becomes of a call: its contents are gathered on its walk, or a row answers.
-- Assumes nothing.
use mathlib.Core.Path.{◌≡◌, refl}
use mathlib.Core.Bool.{Bool, true, false, cond}
use mathlib.Core.List.{List}
use Prim.Native.Nat.{ℕ, ◌/◌}
use borrow.Author.Tests.{le-leb, lt-leb, leb-true, leb-false}
use lib.Dec.{leb}
use lib.ListN.{length}
use Rattle.std.specs.Prelude.{Ok, Err}
use Rattle.format_items.specs.Items.{Items}
use Rattle.format_grammar.specs.Check.{outcome}
use Rattle.format_grammar.proofs.Promises.{accepts_exactly}
use Rattle.list_elements.specs.Contents.{Content}
use Rattle.list_elements.specs.Limits.{ListCheck, good, wanted_check, texts_length}
use Rattle.sheet_walk.specs.Steps.{Placement, records_in}
use Rattle.sheet_walk.specs.Promises.{StopsWith}
use Rattle.sheet_walk.specs.Walk.{Trace, put}
use Rattle.sheet_walk.specs.Refusals.{refusal_number, refusal_place}
use Rattle.sheet_walk.specs.declared.Refusal.{Refusal}
use Rattle.sheet_walk.specs.declared.Refusal.TheVariants.{Element, TextArea, FieldText}
use Rattle.sheet_walk.proofs.Covering.{in-put, in-stopped}
use Rattle.sheet_rows.specs.Rows as rows
use Rattle.sheet_rows.specs.Rows.{Row, passed, then, in_order, format_row, rows_before, after_rows, walk_under}
use Rattle.sheet_rows.specs.Promises.{ElementRefused, RowTold, RefusedWith, Says}
use Rattle.sheet_rows.proofs.RowLaws.{text_rows_say, walk_under_lem}
use Rattle.read_passes.specs.Given.{Gathered, gathered}
use Rattle.read_passes.proofs.GatheredLaws.{Gathers, Refuses, Told, told, AllReadable}
use Rattle.sheet_read.specs.Reading.{Reading, accepts, refuses, concluded, wanted_rows, reading_of}
use Rattle.sheet_read.specs.Promises.{Call, kinds_of, becomes, WantedPass, WantedAnswers, Walks, RowBefore, walk_of, Readable, UnreadableAt, AnsweredBy}
use Rattle.sheet_read.proofs.ReadLaws.{element_refuses, area_refuses, wanted_passed}

-- contents and n records are gathered on a walk of the call
abbrev pub GathersOn : Call → Trace → List Content → ℕ → Type 0
GathersOn c = Gathers c.R (kinds_of c) c.records

-- the walk is first refused so
abbrev pub RefusesOn : Call → Trace → Refusal → Type 0
RefusesOn c = Refuses c.R (kinds_of c) c.records

-- a reading with the reason for it
pub data Came (c : Call) : Reading → Type 0 where
  accepted : {xs : Items} {cs : List Content} {n : ℕ} → Walks c xs → GathersOn c (walk_of c xs) cs n → Came c (accepts cs n)
  refused : {why : Refusal} → AnsweredBy c (refusal_number why) (refusal_place why) → Came c (refuses why)

-- ---- the walk

-- why it is refused: it stops, or a field gives nothing
pub data Stopped (c : Call) (t : Trace) : Refusal → Type 0 where
  stops : {why : Refusal} → StopsWith why t → AllReadable c.R (kinds_of c) c.records t → Stopped c t why
  unreadable : {i : ℕ} → UnreadableAt c i t → Stopped c t (FieldText i)

stopped_after : (c : Call) {p : Placement} {t : Trace} {why : Refusal} → Readable c p → Stopped c t why → Stopped c (put p t) why
stopped_after c r (Stopped.stops s all) = Stopped.stops (StopsWith.there s) (in-put (Readable c) r all)
stopped_after c r (Stopped.unreadable u) = Stopped.unreadable (UnreadableAt.there r u)

stopped : (c : Call) {t : Trace} {why : Refusal} → RefusesOn c t why → Stopped c t why
stopped c (Refuses.stops {why}) = Stopped.stops StopsWith.here (in-stopped (Readable c) why)
stopped c (Refuses.after r s) = stopped_after c r (stopped c s)
stopped c (Refuses.unreadable q e) = Stopped.unreadable (UnreadableAt.here q e)

answered_walk : (c : Call) (xs : Items) {why : Refusal} → Walks c xs → Stopped c (walk_of c xs) why → AnsweredBy c (refusal_number why) (refusal_place why)
answered_walk c xs w (Stopped.stops s all) = AnsweredBy.refused_walk w s all
answered_walk c xs w (Stopped.unreadable u) = AnsweredBy.unreadable w u

came_walk : (c : Call) (xs : Items) → Walks c xs → {g : Gathered} → Told c.R (kinds_of c) c.records (walk_of c xs) g → Came c (concluded g)
came_walk c xs w (Told.accepts a) = Came.accepted w a
came_walk c xs w (Told.refuses r) = Came.refused (answered_walk c xs w (stopped c r))

-- ---- the rows before it

-- what those of the wanted elements say
wanted_says : (c : Call) → Says (wanted_rows (wanted_check c.wanted) (kinds_of c) (length c.area)) (WantedPass c) (WantedAnswers c)
unfolding wanted_rows in_order
wanted_says c =
    record {
      told = told_so (wanted_check c.wanted) refl;
      passes_only = λ w. wanted_passed (wanted_check c.wanted) (kinds_of c) (length c.area) w.good (le-leb (texts_length (kinds_of c)) (length c.area) w.room);
      answers_only = λ k p a. answers a;
    }
  where
    told_area : wanted_check c.wanted ≡ good → (b : Bool) → leb (texts_length (kinds_of c)) (length c.area) ≡ b
        → RowTold (WantedPass c) (WantedAnswers c) (then (cond b passed (rows.refused TextArea)) passed)
    told_area g true e = RowTold.passes (record { good = g; room = leb-true (texts_length (kinds_of c)) (length c.area) e })
    told_area g false e = RowTold.answers (WantedAnswers.no_room g (leb-false (texts_length (kinds_of c)) (length c.area) e))

    told_so : (k : ListCheck) → wanted_check c.wanted ≡ k → RowTold (WantedPass c) (WantedAnswers c) (wanted_rows k (kinds_of c) (length c.area))
    told_so (Ok u) e = told_area e (leb (texts_length (kinds_of c)) (length c.area)) refl
    told_so (Err p) e = RowTold.answers (WantedAnswers.row_six (ElementRefused.bad_element e))

    answers : {k p : ℕ} → WantedAnswers c k p → RefusedWith (wanted_rows (wanted_check c.wanted) (kinds_of c) (length c.area)) k p
    answers (WantedAnswers.row_six (ElementRefused.bad_element {p} e)) =
        record { why = Element p; is = element_refuses (wanted_check c.wanted) (kinds_of c) (length c.area) e; number_is = refl; place_is = refl }
    answers (WantedAnswers.no_room g l) =
        record {
          why = TextArea;
          is = area_refuses (wanted_check c.wanted) (kinds_of c) (length c.area) g (lt-leb (texts_length (kinds_of c)) (length c.area) l);
          number_is = refl;
          place_is = refl;
        }

-- what they say
pub rows_said : (c : Call)
    → Says (rows_before c.R (format_row (outcome c.format)) (wanted_rows (wanted_check c.wanted) (kinds_of c) (length c.area)) (length c.records / c.R)) ((xs : Items) × Walks c xs) (RowBefore c)
rows_said c =
    text_rows_say c.R c.format (wanted_rows (wanted_check c.wanted) (kinds_of c) (length c.area)) (WantedPass c) (WantedAnswers c) (length c.records / c.R) (wanted_says c)

-- the walk
pub walk_is : (c : Call) (xs : Items) → Walks c xs → walk_under c.format (kinds_of c) (records_in c.R (length c.records)) ≡ walk_of c xs
walk_is c xs w = walk_under_lem c.format xs (kinds_of c) (records_in c.R (length c.records)) ((accepts_exactly c.format xs).1 w.format)

pub came : (c : Call) → Came c (becomes c)
unfolding reading_of
came c = go (rows_said c).told
  where
    go : {row : Row} → RowTold ((xs : Items) × Walks c xs) (RowBefore c) row
        → Came c (after_rows refuses row (concluded (gathered c.R (kinds_of c) c.records (walk_under c.format (kinds_of c) (records_in c.R (length c.records))))))
    go (RowTold.passes p) = rw (walk_is c p.0 p.1) (came_walk c p.0 p.1 (told c.R (kinds_of c) c.records (walk_of c p.0)))
    go (RowTold.answers a) = Came.refused (AnsweredBy.row_before a)
