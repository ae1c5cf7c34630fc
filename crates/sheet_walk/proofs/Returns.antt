-- The count of returns never decides how the walk ends: each return takes at least one element.
-- Assumes nothing.
use mathlib.Core.Path.{◌≡◌, refl, ap}
use mathlib.Core.List.{List, [], ◌∷◌}
use Prim.Native.Nat.{ℕ, zero, suc, ◌+◌, ◌≤◌}
use native.Mathlib.Omega.{arith}
use borrow.Author.Tests.{le-leb}
use lib.ListN.{length}
use Rattle.format_items.specs.Met.{Met}
use Rattle.sheet_walk.specs.declared.State.{State}
use Rattle.sheet_walk.specs.Given.{fields_of}
use Rattle.sheet_walk.specs.Steps.{Step, moves, covers, refused, ends, step, end_step}
use Rattle.sheet_walk.specs.Walk.{Sheet, Trace, put, after, pass, returns, at_end}
use Rattle.sheet_walk.specs.Promises.{EndIs, ReturnTakes}
use Rattle.sheet_walk.specs.Followed.{fields_in}
use Rattle.sheet_walk.proofs.StepLaws.{Does, step_does, AtEnd, end_does}

module _ (h : Sheet) where
  -- two ways on that agree wherever the walk may come to
  step_agree : (x : Met) (st : Step) (s : State) (f g : State → Trace) → Does h.kinds h.records x s st
      → ((n : State) → n.taken ≡ s.taken + fields_of x → f n ≡ g n) → after st s f ≡ after st s g
  step_agree x (moves n) s f g d e = e n d.0.takes
  step_agree x (covers p n) s f g d e = ap (put p) (e n d.moved.takes)
  step_agree x (refused why) s f g d e = refl
  step_agree x ends s f g d e = refl

  pub pass_agree : (f g : State → Trace) (xs : List Met) (s : State)
      → ((n : State) → n.taken ≡ s.taken + fields_in xs → f n ≡ g n) → pass h f xs s ≡ pass h g xs s
  unfolding pass fields_in
  pass_agree f g [] s e = e s (omega arith)
  pass_agree f g (x ∷ xs) s e =
      step_agree x (step h.kinds h.records x s) s (pass h f xs) (pass h g xs) (step_does h.kinds h.records s x)
      (λ n k. pass_agree f g xs n (λ m l. e m (omega arith)))

  end_agree : (st : Step) (s : State) (f g : State → Trace) → AtEnd h.kinds h.records s h.part st
      → ((n : State) → n.taken ≡ s.taken → 1 ≤ fields_in h.part → f n ≡ g n) → after st s f ≡ after st s g
  end_agree (moves n) s f g d e = let t = d.0.takes in e n (omega arith) d.1
  end_agree (covers p n) s f g d e = absurd d
  end_agree (refused why) s f g d e = refl
  end_agree ends s f g d e = refl

-- each return takes at least one element, or is refused
pub return_takes : ReturnTakes
return_takes h s next other e =
    end_agree h (end_step h.kinds h.records h.part s) s (pass h next h.part) (pass h other h.part)
    (end_does h.kinds h.records s h.part)
    (λ n t some. pass_agree h next other h.part n (λ m l. e m (omega arith)))

-- where at most k elements remain, k returns are as good as more
pub returns_same : (h : Sheet) (k m : ℕ) (s : State) → length h.kinds ≤ s.taken + k → k ≤ m → returns h k s ≡ returns h m s
unfolding returns end_step
returns_same h zero zero s l le = refl
returns_same h zero (suc m) s l le = rw (le-leb (length h.kinds) s.taken (omega arith))
returns_same h (suc k) zero s l le = absurd (omega arith)
returns_same h (suc k) (suc m) s l le =
    return_takes h s (returns h k) (returns h m) (λ n t. returns_same h k m n (omega arith) (omega arith))

-- the end of the format is a return, or the end of the walk
pub end_is : EndIs
unfolding at_end returns
end_is h s = returns_same h (length h.kinds) (suc (length h.kinds)) s (omega arith) (omega arith)
