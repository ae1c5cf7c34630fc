-- The rules, 'The walk': the whole walk, once for writing and reading. It goes by the kinds and text lengths of the list,
-- and says what is covered where, in order, and how it ends.
-- Assumes nothing.
use Rattle.std.specs.Prelude.{List, [], ◌∷◌, ℕ, zero, suc, ◌+◌, length}
use Rattle.format_items.specs.Items.{Items}
use Rattle.format_items.specs.Met.{Met, met, return_part}
use Rattle.list_elements.specs.Elements.{Kind}
use Rattle.sheet_walk.specs.Steps.{Records, Placement, Step, moves, covers, refused, ends, start, step, end_step}
use Rattle.sheet_walk.specs.declared.Refusal.{Refusal}
use Rattle.sheet_walk.specs.declared.State.{State}

-- what the walk goes by: the items met, those of the part to return to, the kinds of the elements, and the records
pub record Sheet : Type 0 where
  pub items : List Met
  pub part : List Met
  pub kinds : List Kind
  pub records : Records

-- under a format's items
abbrev pub sheet : Items → List Kind → Records → Sheet
sheet xs kinds rs = record { items = met xs; part = met (return_part xs); kinds = kinds; records = rs }

-- a walk: what it covers, in order, and then its end, with the number of records reached, or a refusal
pub data Trace : Type 0 where
  put : Placement → Trace → Trace
  done : (records : ℕ) → Trace
  stopped : Refusal → Trace

-- a step, and the walk after it; 'Records reached, the first included, count'
abbrev pub after : Step → State → (State → Trace) → Trace
after (moves n) s next = next n
after (covers p n) s next = put p (next n)
after (refused why) s next = stopped why
after ends s next = done (s.row + 1)

-- the items up to the end of the format; `next` says what follows there
unfoldable pub pass : Sheet → (State → Trace) → List Met → State → Trace
pass h next [] s = next s
pass h next (x ∷ xs) s = after (step h.kinds h.records x s) s (pass h next xs)

-- the end of the format, and the part to return to; `next` says what follows at the part's end
abbrev pub return : Sheet → (State → Trace) → State → Trace
return h next s = after (end_step h.kinds h.records h.part s) s (pass h next h.part)

-- from the end of the format on, where at most k elements remain
unfoldable pub returns : Sheet → ℕ → State → Trace
returns h zero s = done (s.row + 1)
returns h (suc k) s = return h (returns h k) s

-- from the end of the format on (the law `EndIs` of `Promises`: it is `return h (at_end h)`, whatever the number of returns)
unfoldable pub at_end : Sheet → State → Trace
at_end h s = returns h (length h.kinds) s

-- 'Items are met in order'
unfoldable pub walk : Sheet → Trace
walk h = pass h (at_end h) h.items start

-- An example: (I2) with two integers and two records. The first I2 covers columns 1 and 2 of record 0 with element 0; at the
-- end of the format an element is left, so the walk goes to record 1 and returns to the whole format; I2 covers columns 1 and
-- 2 of record 1 with element 1; at the end none remains, and two records were reached:
-- put (element 0, record 0, column 1, width 2) (put (element 1, record 1, column 1, width 2) (done 2))
