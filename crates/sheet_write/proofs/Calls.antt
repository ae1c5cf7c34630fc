-- What becomes of a call: it is acceptable, or a row answers; and the buffer after an accepted one.
-- Assumes nothing.
use mathlib.Core.Path.{◌≡◌, refl, ap}
use mathlib.Core.List.{map}
use Prim.Native.Nat.{ℕ, ◌/◌}
use lib.ListN.{length}
use Rattle.format_items.specs.Items.{Items}
use Rattle.format_grammar.specs.Check.{outcome}
use Rattle.format_grammar.proofs.Promises.{accepts_exactly}
use Rattle.list_elements.specs.Elements.{kind_of}
use Rattle.list_elements.specs.Limits.{good, list_check}
use Rattle.sheet_walk.specs.Walk.{Trace}
use Rattle.sheet_walk.specs.Laid.{written}
use Rattle.sheet_walk.specs.Refusals.{refusal_number, refusal_place}
use Rattle.sheet_walk.specs.declared.Refusal.{Refusal}
use Rattle.sheet_rows.specs.Rows.{Row, format_row, element_row, rows_before, after_rows, walk_under}
use Rattle.sheet_rows.specs.Promises.{ElementRefused, RowTold, Says}
use Rattle.sheet_rows.proofs.RowLaws.{element_row_says, text_rows_say, walk_under_lem}
use Rattle.write_passes.specs.Placed.{characters, Judged}
use Rattle.sheet_write.specs.Writing.{Writing, accepts, refuses, concluded, walked, writing_of, buffer_of}
use Rattle.sheet_write.specs.Promises.{Call, values_of, becomes, buffer_after, Walks, RowBefore, walk_of, AcceptableCall, AnsweredBy}
use Rattle.sheet_write.proofs.Rounds.{Told, told}
use Rattle.sheet_walk.specs.Steps.{records_in}

-- a writing with the reason for it
pub data Came (c : Call) : Writing → Type 0 where
  accepted : {t : Trace} {n : ℕ} → AcceptableCall c t n → Came c (accepts t n)
  refused : {why : Refusal} → AnsweredBy c (refusal_number why) (refusal_place why) → Came c (refuses why)

-- ---- the walk

came_walk : (c : Call) (xs : Items) → Walks c xs → {j : Judged} → Told (values_of c) (walk_of c xs) j → Came c (concluded (walk_of c xs) j)
came_walk c xs w (Told.ends e all) = Came.accepted (record { xs = xs; walks = w; is = refl; ends = e; rounds = all })
came_walk c xs w (Told.stops s all) = Came.refused (AnsweredBy.refused_walk w s all)
came_walk c xs w (Told.large l) = Came.refused (AnsweredBy.too_large w l)

-- ---- the rows before it

-- what they say
pub rows_said : (c : Call)
    → Says (rows_before c.R (format_row (outcome c.format)) (element_row (list_check c.area c.list)) (length c.buffer / c.R)) ((xs : Items) × Walks c xs) (RowBefore c)
rows_said c =
    text_rows_say c.R c.format (element_row (list_check c.area c.list)) (list_check c.area c.list ≡ good) (ElementRefused (list_check c.area c.list))
    (length c.buffer / c.R) (element_row_says (list_check c.area c.list))

-- its walk
pub walk_is : (c : Call) (xs : Items) → Walks c xs → walk_under c.format (map kind_of (values_of c)) (records_in c.R (length c.buffer)) ≡ walk_of c xs
walk_is c xs w = walk_under_lem c.format xs (map kind_of (values_of c)) (records_in c.R (length c.buffer)) ((accepts_exactly c.format xs).1 w.format)

pub came : (c : Call) → Came c (becomes c)
unfolding writing_of
came c = go (rows_said c).told
  where
    go : {row : Row} → RowTold ((xs : Items) × Walks c xs) (RowBefore c) row
        → Came c (after_rows refuses row (walked (values_of c) (walk_under c.format (map kind_of (values_of c)) (records_in c.R (length c.buffer)))))
    go (RowTold.passes p) = rw (walk_is c p.0 p.1) (came_walk c p.0 p.1 (told (values_of c) (walk_of c p.0)))
    go (RowTold.answers a) = Came.refused (AnsweredBy.row_before a)

-- ---- the buffer afterwards

pub buffer_is : (c : Call) (t : Trace) (n : ℕ) → becomes c ≡ accepts t n → buffer_after c ≡ written c.R (characters c.area (values_of c)) t n c.buffer
buffer_is c t n e = ap (buffer_of c.R c.area (values_of c) c.buffer) e
