-- The rules, 'The walk': columns covered, and covered twice.
-- Assumes nothing.
use Rattle.std.specs.Prelude.{Bool, false, ◌&&◌, ◌||◌, ℕ, ◌+◌, ◌<◌, ◌≤◌, max, min, eqb, ltb, ◌≡◌}
use Rattle.sheet_walk.specs.Steps.{Placement}
use Rattle.sheet_walk.specs.Walk.{Trace, put, done, stopped}

-- the placement covers the column c of the record r
pub record Covers (p : Placement) (r c : ℕ) : Type 0 where
  pub in-record : p.row ≡ r
  pub from : p.column ≤ c
  pub to : c < p.column + p.width

-- a placement of the walk
pub data In (p : Placement) : Trace → Type 0 where
  here : {t : Trace} → In p (put p t)
  there : {q : Placement} {t : Trace} → In p t → In p (put q t)

-- 'A column is covered twice where two items met, or one met twice, cover it in the same record': one of the walk's
-- placements and a later one
pub data CoveredTwice (r c : ℕ) : Trace → Type 0 where
  here : {p q : Placement} {t : Trace} → Covers p r c → In q t → Covers q r c → CoveredTwice r c (put p t)
  there : {p : Placement} {t : Trace} → CoveredTwice r c t → CoveredTwice r c (put p t)

-- the same as a test (the law `CoveredTwiceIs` of `Promises`): two placements share a column
abbrev pub share : Placement → Placement → Bool
share p q = eqb p.row q.row && ltb (max p.column q.column) (min (p.column + p.width) (q.column + q.width))

unfoldable pub shares_with : Placement → Trace → Bool
shares_with p (put q t) = share p q || shares_with p t
shares_with p (done n) = false
shares_with p (stopped why) = false

unfoldable pub covered_twice : Trace → Bool
covered_twice (put p t) = shares_with p t || covered_twice t
covered_twice (done n) = false
covered_twice (stopped why) = false

-- ---- 'a later item overwrites'

-- p is the last placement of the walk that covers the column c of the record r
pub data LastCovers (p : Placement) (r c : ℕ) : Trace → Type 0 where
  here : {t : Trace} → Covers p r c → ((q : Placement) → In q t → Covers q r c → ⊥) → LastCovers p r c (put p t)
  there : {q : Placement} {t : Trace} → LastCovers p r c t → LastCovers p r c (put q t)

-- no placement of the walk covers it
abbrev pub Uncovered : ℕ → ℕ → Trace → Type 0
Uncovered r c t = (p : Placement) → In p t → Covers p r c → ⊥
