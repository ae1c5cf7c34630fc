-- The rules, 'The walk': what a walk leaves in the records.
-- Assumes nothing.
use Rattle.std.specs.Prelude.{List, ℕ, ◌+◌, ◌-◌, ◌*◌, take, drop, replicate}
use Rattle.buffer.specs.Characters.{blank}
use Rattle.buffer.specs.Splice.{splice}
use Rattle.sheet_walk.specs.Steps.{Placement}
use Rattle.sheet_walk.specs.Walk.{Trace, put, done, stopped}

-- where the column c of the record r stands in the buffer, the records being R wide
abbrev pub offset : ℕ → ℕ → ℕ → ℕ
offset R r c = r * R + (c - 1)

-- where a placement's first column stands
abbrev pub offset_of : ℕ → Placement → ℕ
offset_of R p = offset R p.row p.column

-- the characters of each placement laid in order: 'a later item overwrites'
unfoldable pub laid : ℕ → (Placement → List ℕ) → Trace → List ℕ → List ℕ
laid R characters (put p t) buffer = laid R characters t (splice buffer (offset_of R p) (characters p))
laid R characters (done n) buffer = buffer
laid R characters (stopped why) buffer = buffer

-- the first n records blank; 'Bytes after the last written record keep their contents.'
unfoldable pub blanked : ℕ → ℕ → List ℕ → List ℕ
blanked R n buffer = splice buffer 0 (replicate (n * R) blank)

-- 'Each is blank apart from what was put there'
unfoldable pub written : ℕ → (Placement → List ℕ) → Trace → ℕ → List ℕ → List ℕ
written R characters t n buffer = laid R characters t (blanked R n buffer)

-- the bytes in a placement's columns
abbrev pub columns : ℕ → Placement → List ℕ → List ℕ
columns R p buffer = take p.width (drop (offset_of R p) buffer)
