-- The walk does not depend on the records beyond those that it reaches.
-- Assumes nothing.
use mathlib.Core.Path.{◌≡◌, refl, ap, ◌∙◌}
use mathlib.Core.Bool.{Bool, true, false, cond}
use mathlib.Core.List.{List, [], ◌∷◌}
use Prim.Native.Nat.{ℕ, zero, suc, ◌+◌, ◌<◌, ◌≤◌}
use native.Mathlib.Omega.{arith}
use borrow.Author.Tests.{lt-ltb}
use lib.Dec.{leb, ltb}
use lib.ListN.{length, drop}
use Rattle.format_items.specs.Items.{Field}
use Rattle.format_items.specs.Met.{Met}
use Rattle.list_elements.specs.Elements.{Kind}
use Rattle.sheet_walk.specs.Steps.{Records, Step, moves, covers, refused, ends, to_next_record, start, field_step, next_record, step, has_field, end_step}
use Rattle.sheet_walk.specs.Walk.{Sheet, Trace, put, after, pass, returns, at_end, walk}
use Rattle.sheet_walk.specs.Promises.{EndsWith, RecordsBeyond}
use Rattle.sheet_walk.specs.declared.Refusal.TheVariants as refusal
use Rattle.sheet_walk.specs.declared.State.{State}
use Rattle.sheet_walk.proofs.StepLaws.{Does, step_does, AtEnd, end_does}
use Rattle.sheet_walk.proofs.Covering.{ends_put, ends_done, ends_stopped}

-- ---- where a walk from s on ends with n records, the record of s is one of them

module _ (h : Sheet) (n : ℕ) where
  -- what follows at s, where it ends with n records, goes on from one of them
  abbrev Reaching : (State → Trace) → Type 0
  Reaching next = (s : State) → EndsWith n (next s) → s.row < n

  reaching_step : (x : Met) (st : Step) (s : State) (next : State → Trace) → Does h.kinds h.records x s st → Reaching next → EndsWith n (after st s next) → s.row < n
  reaching_step x (moves k) s next d rest e = omega (arith, rest k e, d.0.row_on)
  reaching_step x (covers p k) s next d rest e = omega (arith, rest k (ends_put e), d.moved.row_on)
  reaching_step x (refused why) s next d rest e = absurd (ends_stopped e)
  reaching_step x ends s next d rest e = omega (arith, ends_done e)

  reaching_pass : (next : State → Trace) → Reaching next → (xs : List Met) → Reaching (pass h next xs)
  unfolding pass
  reaching_pass next rest [] s e = rest s e
  reaching_pass next rest (x ∷ xs) s e =
      reaching_step x (step h.kinds h.records x s) s (pass h next xs) (step_does h.kinds h.records s x) (reaching_pass next rest xs) e

  reaching_end : (st : Step) (s : State) (next : State → Trace) → AtEnd h.kinds h.records s h.part st → Reaching next → EndsWith n (after st s next) → s.row < n
  reaching_end (moves k) s next d rest e = omega (arith, rest k e, d.0.row_on)
  reaching_end (covers p k) s next d rest e = absurd d
  reaching_end (refused why) s next d rest e = absurd (ends_stopped e)
  reaching_end ends s next d rest e = omega (arith, ends_done e)

  reaching_returns : (k : ℕ) → Reaching (returns h k)
  unfolding returns
  reaching_returns zero s e = omega (arith, ends_done e)
  reaching_returns (suc k) s e =
      reaching_end (end_step h.kinds h.records h.part s) s (pass h (returns h k) h.part) (end_does h.kinds h.records s h.part)
      (reaching_pass (returns h k) (reaching_returns k) h.part) e

-- ---- with m records instead, where m is no fewer than the n reached

module _ (h : Sheet) (n m : ℕ) (more : n ≤ m) where
  abbrev rs : Records
  rs = h.records

  abbrev others : Records
  others = record { width = h.records.width; count = m }

  abbrev other : Sheet
  other = record { items = h.items; part = h.part; kinds = h.kinds; records = others }

  -- two ways on that agree where the first ends with n records
  abbrev Agree : (State → Trace) → (State → Trace) → Type 0
  Agree f g = (s : State) → EndsWith n (f s) → g s ≡ f s

  -- the same step before two such ways on
  step_agrees : (st : Step) (s : State) (f g : State → Trace) → Agree f g → EndsWith n (after st s f) → after st s g ≡ after st s f
  step_agrees (moves k) s f g a e = a k e
  step_agrees (covers p k) s f g a e = ap (put p) (a k (ends_put e))
  step_agrees (refused why) s f g a e = refl
  step_agrees ends s f g a e = refl

  -- the next record is one of the n, so one of the m
  next_agrees : (s : State) (f g : State → Trace) → Reaching h n f → Agree f g → EndsWith n (after (next_record rs s) s f)
      → after (next_record others s) s g ≡ after (next_record rs s) s f
  next_agrees s f g r a = go (ltb (s.row + 1) rs.count)
    where
      to : State
      to = to_next_record s

      go : (b : Bool) → EndsWith n (after (cond b (moves to) (refused (refusal.NextRecord s.taken))) s f)
          → after (next_record others s) s g ≡ after (cond b (moves to) (refused (refusal.NextRecord s.taken))) s f
      go true e =
          let l : s.row + 1 < m = omega (arith, r to e) in
          rw (lt-ltb (s.row + 1) m l) (a to e)
      go false e = absurd (ends_stopped e)

  -- a field has nothing to do with the count
  field_same : (s : State) (y : Field ℕ) (ks : List Kind) → field_step others s y ks ≡ field_step rs s y ks
  field_same s y [] = refl
  field_same s y (k ∷ ks) = refl

  item_agrees : (x : Met) (s : State) (f g : State → Trace) → Reaching h n f → Agree f g → EndsWith n (after (step h.kinds rs x s) s f)
      → after (step h.kinds others x s) s g ≡ after (step h.kinds rs x s) s f
  unfolding step
  item_agrees (Met.field y) s f g r a e =
      ap (λ st. after st s g) (field_same s y (drop s.taken h.kinds)) ∙ step_agrees (step h.kinds rs (Met.field y) s) s f g a e
  item_agrees (Met.X k) s f g r a e = step_agrees (step h.kinds rs (Met.X k) s) s f g a e
  item_agrees (Met.T k) s f g r a e = step_agrees (step h.kinds rs (Met.T k) s) s f g a e
  item_agrees Met.slash s f g r a e = next_agrees s f g r a e
  item_agrees (Met.literal cs) s f g r a e = step_agrees (step h.kinds rs (Met.literal cs) s) s f g a e
  item_agrees (Met.setting k) s f g r a e = step_agrees (step h.kinds rs (Met.setting k) s) s f g a e

  pass_agrees : (f g : State → Trace) → Reaching h n f → Agree f g → (xs : List Met) → Agree (pass h f xs) (pass other g xs)
  unfolding pass
  pass_agrees f g r a [] s e = a s e
  pass_agrees f g r a (x ∷ xs) s e =
      item_agrees x s (pass h f xs) (pass other g xs) (reaching_pass h n f r xs) (pass_agrees f g r a xs) e

  end_agrees : (s : State) (f g : State → Trace) → Reaching h n f → Agree f g → EndsWith n (after (end_step h.kinds rs h.part s) s f)
      → after (end_step h.kinds others h.part s) s g ≡ after (end_step h.kinds rs h.part s) s f
  unfolding end_step
  end_agrees s f g r a = go (leb (length h.kinds) s.taken) (has_field h.part)
    where
      by : Bool → Bool → Records → Step
      by b c k = cond b ends (cond c (next_record k s) (refused (refusal.NoField s.taken)))

      go : (b c : Bool) → EndsWith n (after (by b c rs) s f) → after (by b c others) s g ≡ after (by b c rs) s f
      go true c e = refl
      go false true e = next_agrees s f g r a e
      go false false e = refl

  returns_agree : (k : ℕ) → Agree (returns h k) (returns other k)
  unfolding returns
  returns_agree zero s e = refl
  returns_agree (suc k) s e =
      end_agrees s (pass h (returns h k) h.part) (pass other (returns other k) h.part)
      (reaching_pass h n (returns h k) (reaching_returns h n k) h.part)
      (pass_agrees (returns h k) (returns other k) (reaching_returns h n k) (returns_agree k) h.part) e

  walk_agrees : EndsWith n (walk h) → walk other ≡ walk h
  unfolding walk at_end
  walk_agrees e =
      pass_agrees (at_end h) (at_end other) (reaching_returns h n (length h.kinds)) (returns_agree (length h.kinds)) h.items start e

pub records_beyond : RecordsBeyond
records_beyond h n m e more = walk_agrees h n m more e
