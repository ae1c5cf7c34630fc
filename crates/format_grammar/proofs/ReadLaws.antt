-- Laws of reading a text from an offset on.
-- Assumes nothing.
use mathlib.Core.Path.{◌≡◌, refl, ◌∙◌}
use mathlib.Core.Bool.{◌&&◌, false}
use mathlib.Core.List.{List, ◌∷◌}
use Prim.Native.Nat.{ℕ, ◌+◌, ◌-◌, ◌*◌, ◌<◌, ◌≤◌}
use native.Mathlib.Numerals.{add-one}
use native.Mathlib.Omega.{arith}
use native.Mathlib.Decide.{dec_lt}
use borrow.Author.Tests.{lt-ltb, le-leb}
use lib.Dec.{ltb}
use lib.ListN.{length, get_or, drop, drop_of_length-le}
use lib.Seq.{drop-cons}
use Rattle.number.specs.Digits.{is_digit}
use Rattle.format_items.specs.Items.{Items}
use Rattle.format_grammar.specs.Grammar.{At}
use Rattle.format_grammar.specs.Reading.{Use, Mode, Open, State, Reading, step, step_within, final, unless_dead, used, written, close, read_from, read_at}

pub drop_one : (s : List ℕ) (at : ℕ) → at < length s → drop at s ≡ get_or s at 0 ∷ drop (at + 1) s
drop_one s at h = rw (add-one, drop-cons s at 0)

-- two bytes on
pub two : (at : ℕ) → at + 2 ≡ at + 1 + 1
two at = omega arith

-- one byte
pub read_one : (s : List ℕ) (at : ℕ) (st : State) → at < length s → read_at s at st ≡ unless_dead (step at st (get_or s at 0)) (Reading.wrong at) (read_at s (at + 1) (step at st (get_or s at 0)))
unfolding read_at read_from
read_one s at st h = rw (drop_one s at h)

-- one byte on
pub read_step : (s : List ℕ) (at : ℕ) (st to : State) → at < length s → step at st (get_or s at 0) ≡ to → ((a b : Reading) → unless_dead to a b ≡ b) → read_at s at st ≡ read_at s (at + 1) to
unfolding read_at read_from
read_step s at st to h e live = rw (drop_one s at h, e) (live _ _)

-- one byte on, where it is known
pub read_byte : {s : List ℕ} {at c : ℕ} (st to : State) → At s at c → step at st c ≡ to → ((a b : Reading) → unless_dead to a b ≡ b) → read_at s at st ≡ read_at s (at + 1) to
read_byte {s} {at} st to h e live = read_step s at st to h.within (rw h.is e) live

-- no byte can go on
pub read_dead : (s : List ℕ) (at : ℕ) (st : State) → at < length s → step at st (get_or s at 0) ≡ State.dead → read_at s at st ≡ Reading.wrong at
unfolding read_at read_from
read_dead s at st h e = rw (drop_one s at h, e) refl

-- the text ends
pub read_end : (s : List ℕ) (at : ℕ) (st : State) → length s ≤ at → read_at s at st ≡ final at st
unfolding read_at read_from
read_end s at st h = rw (drop_of_length-le s h) refl

-- two states of which the next byte, or the end, makes the same
pub read_same : (s : List ℕ) (at : ℕ) (st to : State) → (at < length s → step at st (get_or s at 0) ≡ step at to (get_or s at 0)) → final at st ≡ final at to → read_at s at st ≡ read_at s at to
unfolding read_at read_from
read_same s at st to e f = go (dec_lt at (length s))
  where
    go : Dec (at < length s) → read_at s at st ≡ read_at s at to
    go (yes h) = rw (drop_one s at h, e h)
    go (no h) = rw (drop_of_length-le s {i = at} (omega arith)) f

-- neither a byte nor the end goes on
pub read_stuck : (s : List ℕ) (at : ℕ) (st : State) → (at < length s → step at st (get_or s at 0) ≡ State.dead) → final at st ≡ Reading.wrong at → read_at s at st ≡ Reading.wrong at
read_stuck s at st e f = go (dec_lt at (length s))
  where
    go : Dec (at < length s) → read_at s at st ≡ Reading.wrong at
    go (yes h) = read_dead s at st h (e h)
    go (no h) = read_end s at st (omega arith) ∙ f

-- a digit, and a byte that goes on with no number
pub step_digit : (u : Use) (from v at l : ℕ) (xs : Items) (q : Open) (b : ℕ) → at < from + 3 → 48 ≤ b → b ≤ 57
    → step at (State.within (Mode.digits u from v) l xs q) b ≡ State.within (Mode.digits u from (v * 10 + (b - 48))) l xs q
unfolding step step_within
step_digit u from v at l xs q b h lo hi = simp (lt-ltb _ _ h, le-leb _ _ lo, le-leb _ _ hi)

pub step_used : (u : Use) (from v at l : ℕ) (xs : Items) (q : Open) (b : ℕ) → (ltb at (from + 3) && is_digit b) ≡ false
    → step at (State.within (Mode.digits u from v) l xs q) b ≡ used u (written from at v) at l xs q b
unfolding step step_within
step_used u from v at l xs q b e = rw e

pub close_live : (l : ℕ) (xs : Items) (q : Open) (a b : Reading) → unless_dead (close l xs q) a b ≡ b
close_live l xs Open.format a b = refl
close_live l xs (Open.group before r q) a b = refl
