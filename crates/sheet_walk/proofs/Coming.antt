-- Where the walk comes to: it ends there, and covers what it covers, exactly as its steps say.
-- Assumes nothing.
use mathlib.Core.Path.{◌≡◌, sym}
use mathlib.Core.List.{List}
use Prim.Native.Nat.{ℕ, ◌+◌}
use Rattle.format_items.specs.Met.{Met}
use Rattle.sheet_walk.specs.declared.State.{State}
use Rattle.sheet_walk.specs.Steps.{Placement}
use Rattle.sheet_walk.specs.Walk.{Sheet, Trace, put, pass, at_end, walk}
use Rattle.sheet_walk.specs.Columns.{In, here, there}
use Rattle.sheet_walk.specs.Promises.{EndsWith, Comes, EndsThere, EndsExactly, CoversThere, CoversExactly}
use Rattle.sheet_walk.proofs.Returns.{end_is}
use Rattle.sheet_walk.proofs.Covering.{every, in-put, in-done, in-stopped, ends_put, ends_done, ends_stopped}

-- what holds of what is left of the walk, and is kept where more is put before it, holds of the whole walk
pub whole_too : (h : Sheet) (P : Trace → Type 0) → ((p : Placement) (t : Trace) → P t → P (put p t)) → {xs : List Met} {s : State}
    → Comes h xs s → P (pass h (at_end h) xs s) → P (walk h)
unfolding walk pass
whole_too h P on Comes.begins m = m
whole_too h P on (Comes.moved c e) m = whole_too h P on c (rw e m)
whole_too h P on (Comes.covered {p} c e) m = whole_too h P on c (rw e (on p _ m))
whole_too h P on (Comes.returned {s} c e) m = whole_too h P on c (rw (end_is h s, e) m)

-- ---- the end

abbrev EndsSomewhere : Sheet → ℕ → Type 0
EndsSomewhere h n = (s : State) × EndsThere h s × (n ≡ s.row + 1)

ends_somewhere : (h : Sheet) (n : ℕ) → EndsWith n (walk h) → EndsSomewhere h n
ends_somewhere h n =
    every h (λ s t. EndsWith n t → EndsSomewhere h n)
    (λ s m t r e rest. rest)
    (λ x s m p t i c _ rest k. rest (ends_put k))
    (λ s i e g k. (s, g, sym (ends_done k)))
    (λ s why _ k. absurd (ends_stopped k))

ends_there : (h : Sheet) (s : State) → EndsThere h s → EndsWith (s.row + 1) (walk h)
unfolding pass
ends_there h s (EndsThere.at_item c e) = whole_too h (EndsWith (s.row + 1)) (λ p t. EndsWith.there) c (rw e EndsWith.here)
ends_there h s (EndsThere.at_end_lem c e) = whole_too h (EndsWith (s.row + 1)) (λ p t. EndsWith.there) c (rw (end_is h s, e) EndsWith.here)

pub ends_exactly : EndsExactly
ends_exactly h n = (ends_somewhere h n, λ a. rw a.2 (ends_there h a.0 a.1))

-- ---- what is covered

covers_somewhere : (h : Sheet) (p : Placement) → In p (walk h) → CoversThere h p
covers_somewhere h =
    every h (λ s t. (p : Placement) → In p t → CoversThere h p)
    (λ s n t r e rest. rest)
    (λ x s n p t i c g rest. in-put (CoversThere h) g rest)
    (λ s i e _. in-done (CoversThere h) (s.row + 1))
    (λ s why _. in-stopped (CoversThere h) why)

covers_there : (h : Sheet) (p : Placement) → CoversThere h p → In p (walk h)
unfolding pass
covers_there h p (CoversThere.at_item c e) = whole_too h (In p) (λ q t. there) c (rw e here)

pub covers_exactly : CoversExactly
covers_exactly h p = (covers_somewhere h p, covers_there h p)
