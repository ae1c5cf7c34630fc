-- The fields placed by a walk: their numbers are within their ranges, and some record is reached.
-- Assumes nothing.
use mathlib.Core.Path.{◌≡◌, subst}
use mathlib.Core.List.{List, [], ◌∷◌}
use Prim.Native.Nat.{ℕ, zero, suc, ◌+◌, ◌<◌, ◌≤◌}
use native.Mathlib.Omega.{arith}
use lib.ListN.{length}
use Rattle.format_items.specs.Items.{Field}
use Rattle.format_items.specs.Met.{Met}
use Rattle.format_items.specs.MetRanges.{MetWithin, AllMetWithin}
use Rattle.sheet_walk.specs.Steps.{element, Placement, Step, moves, covers, refused, ends, start, step, end_step}
use Rattle.sheet_walk.specs.Walk.{Sheet, Trace, after, pass, returns, at_end, walk}
use Rattle.sheet_walk.specs.Columns.{In}
use Rattle.sheet_walk.specs.Promises.{Walkable, EndsWith}
use Rattle.sheet_walk.specs.declared.State.{State}
use Rattle.sheet_walk.proofs.StepLaws.{Does, step_does, AtEnd, end_does}
use Rattle.sheet_walk.proofs.Covering.{every, in-put, in-done, in-stopped, ends_put, ends_done, ends_stopped}

-- ---- every field placed is an item met, so within its ranges

-- where a field covers a placement's columns, its numbers are within their ranges
abbrev pub FieldWithin : Placement → Type 0
FieldWithin p = (i : ℕ) (f : Field ℕ) → p.what ≡ element i f → MetWithin (Met.field f)

abbrev AllFieldsWithin : Trace → Type 0
AllFieldsWithin t = (p : Placement) → In p t → FieldWithin p

module _ (h : Sheet) where
  within_step : (x : Met) (st : Step) (s : State) (next : State → Trace) → MetWithin x → Does h.kinds h.records x s st → ((n : State) → AllFieldsWithin (next n)) → AllFieldsWithin (after st s next)
  within_step x (moves n) s next m d rest = rest n
  within_step x (covers p n) s next m d rest = in-put FieldWithin (λ i f e. subst MetWithin (rw e at d.by).0 m) (rest n)
  within_step x (refused why) s next m d rest = in-stopped FieldWithin why
  within_step x ends s next m d rest = in-done FieldWithin (s.row + 1)

  within_pass : (next : State → Trace) → ((n : State) → AllFieldsWithin (next n)) → (xs : List Met) → AllMetWithin xs → (s : State) → AllFieldsWithin (pass h next xs s)
  unfolding pass
  within_pass next rest [] all s = rest s
  within_pass next rest (x ∷ xs) all s =
      within_step x (step h.kinds h.records x s) s (pass h next xs) all.0 (step_does h.kinds h.records s x)
      (within_pass next rest xs all.1)

  within_end : (st : Step) (s : State) (next : State → Trace) → AtEnd h.kinds h.records s h.part st → ((n : State) → AllFieldsWithin (next n)) → AllFieldsWithin (after st s next)
  within_end (moves n) s next d rest = rest n
  within_end (covers p n) s next d rest = absurd d
  within_end (refused why) s next d rest = in-stopped FieldWithin why
  within_end ends s next d rest = in-done FieldWithin (s.row + 1)

  within_returns : AllMetWithin h.part → (k : ℕ) (s : State) → AllFieldsWithin (returns h k s)
  unfolding returns
  within_returns all zero s = in-done FieldWithin (s.row + 1)
  within_returns all (suc k) s =
      within_end (end_step h.kinds h.records h.part s) s (pass h (returns h k) h.part) (end_does h.kinds h.records s h.part)
      (within_pass (returns h k) (within_returns all k) h.part all)

  pub fields_within : Walkable h → (p : Placement) → In p (walk h) → FieldWithin p
  unfolding walk at_end
  fields_within w =
      within_pass (at_end h) (within_returns w.part_within (length h.kinds)) h.items w.items_within start

-- ---- a walk that ends reaches the first record at least

pub ends_reached : (h : Sheet) (n : ℕ) → EndsWith n (walk h) → 1 ≤ n
ends_reached h =
    every h (λ s t. (n : ℕ) → EndsWith n t → s.row < n)
    (λ s n t r e rest k m. let l = rest k m in omega arith)
    (λ x s n p t i c _ rest k m. let l = rest k (ends_put m) in omega (arith, c.moved.row_on))
    (λ s i e _ k m. let d = ends_done m in omega arith)
    (λ s why _ k m. absurd (ends_stopped m))
