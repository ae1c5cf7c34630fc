-- What is read is grammatical.
-- Assumes nothing.
use mathlib.Core.Path.{◌≡◌, sym, ◌∙◌}
use mathlib.Core.List.{List}
use Prim.Native.Nat.{ℕ, zero, suc, ◌+◌}
use native.Mathlib.Omega.{arith}
use lib.ListN.{length, get_or}
use Rattle.format_items.specs.Items.{Items}
use Rattle.format_grammar.specs.Grammar.{Format}
use Rattle.format_grammar.specs.Reading.{State, Reading, step, final, unless_dead, read_at, reading}
use Rattle.format_grammar.proofs.ReadLaws.{read_one, read_end}
use Rattle.format_grammar.proofs.Reached.{Reached}
use Rattle.format_grammar.proofs.Steps.{reached_step}

-- the text ends after the last bracket
whole_text : {s : List ℕ} {at : ℕ} {xs : Items} → Reached s at (State.end xs) → length s ≡ at → Format s xs
whole_text (Reached.end {b} opens seq closes) h = record { end = b; opens = opens; items = seq; closes = closes; whole = h }

pub final_items : (at : ℕ) (st : State) (xs : Items) → final at st ≡ Reading.items xs → st ≡ State.end xs
final_items at State.begin xs e = (cc)
final_items at (State.within m l ys q) xs e = (cc)
final_items at (State.end ys) xs e = (cc)
final_items at State.dead xs e = (cc)

alive_items : (at : ℕ) (st : State) (o : Reading) (xs : Items) → unless_dead st (Reading.wrong at) o ≡ Reading.items xs → o ≡ Reading.items xs
alive_items at State.begin o xs e = e
alive_items at (State.within m l ys q) o xs e = e
alive_items at (State.end ys) o xs e = e
alive_items at State.dead o xs e = (cc)

sound_from : (n : ℕ) (s : List ℕ) (at : ℕ) (st : State) (xs : Items) → length s ≡ at + n → Reached s at st → read_at s at st ≡ Reading.items xs → Format s xs
sound_from zero s at st xs h r e = whole_text (rw (final_items at st xs (sym (read_end s at st (omega arith)) ∙ e)) at r) (omega arith)
sound_from (suc n) s at st xs h r e =
    let to : State = step at st (get_or s at 0) in
    sound_from n s (at + 1) to xs (omega arith) (reached_step (omega arith) r) (alive_items at to _ xs (sym (read_one s at st (omega arith)) ∙ e))

pub sound : (s : List ℕ) (xs : Items) → reading s ≡ Reading.items xs → Format s xs
unfolding reading
sound s xs e = sound_from (length s) s 0 State.begin xs (omega arith) Reached.begin e
