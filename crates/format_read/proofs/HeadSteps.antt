-- The beginning of an item: the digits, if any, and the byte after them.
-- Assumes nothing.
use mathlib.Core.Path.{◌≡◌, refl, sym, ◌∙◌}
use mathlib.Core.Logic.{⊎_elim}
use mathlib.Core.Bool.{true, ◌||◌}
use mathlib.Core.List.{List}
use Prim.Native.Nat.{ℕ, ◌+◌, ◌-◌, ◌<◌}
use native.Mathlib.Omega.{arith}
use borrow.Author.Tests.{eq-eqb, ne_eqb}
use lib.Dec.{eqb}
use lib.ListN.{length, get_or}
use Rattle.std.specs.Prelude.{Option, is_some, unwrap_or}
use Rattle.format_items.specs.Items.{Items}
use Rattle.format_items.specs.Ranges.{repeat_numbers}
use Rattle.format_grammar.specs.Reading.{Use, Open, State, Reading, wanted, read_at}
use Rattle.format_words.specs.declared.Entry.{Entry}
use Rattle.format_read.specs.Steps.{number_at, NumberFound, outside_after, Stuck, Opened}
use Rattle.format_read.specs.declared.Position.{Position}
use Rattle.format_grammar.proofs.Cases.{is_mark}
use Rattle.format_read.proofs.SingleSteps.{times_at, times_few, number_stuck_at, number_on_at}
use Rattle.format_read.proofs.BegunSteps.{after_digits}
use Rattle.format_read.proofs.TakeSteps.{Moved}

-- ---- an opening bracket

module _ {at l : ℕ} {v : Option ℕ} (p : Position) (f : NumberFound p.text.now p.at v at) (h : at < length p.text.now) (e : get_or p.text.now at 0 ≡ 40) where
  -- no level is left
  pub too_deep : l ≡ 0 → (xs : Items) (q : Open) → read_at p.text.now p.at (State.within (wanted p.at) l xs q) ≡ Reading.wrong at
  too_deep z xs q = number_stuck_at f Use.start l xs q (rw (e, eq-eqb l 0 z))

  pub opened : {inside : Position} → (l ≡ 0 → ⊥) → (r : ℕ) (o : Option ℕ) → r ≡ unwrap_or v 1 → o ≡ outside_after p.outside (repeat_numbers (number_at p.at v))
      → Moved p (at + 1) (p.entries + 1) p.chars o inside → (a : List Entry) (t : List ℕ) → Opened l p inside r a t a t
  opened {inside} z r o rep out m a t =
      let k = number_at p.at v in
      record {
        k = k;
        repeats = times_at p.at v ∙ sym rep;
        runs = λ xs q. rw m.at_is (number_on_at f Use.start h l xs q (State.within (wanted (at + 1)) (l - 1) Items.none (Open.group xs k q)) (rw (e, ne_eqb l 0 z)) (λ a b. refl));
        outside_is = m.outside_is ∙ out;
        same_entries = refl;
        same_chars = refl;
        same_text = m.same_text;
        entries_are = m.entries_are;
        chars_are = m.chars_are;
        deep = omega arith;
        few = omega (arith, rep, times_few v f.small);
        more = omega (arith, m.at_is, f.low);
      }

-- ---- a mark

-- digits before a mark
pub mark_after_digits : {s : List ℕ} {from at : ℕ} {v : Option ℕ} → NumberFound s from v at → at < length s → is_some v ≡ true → (eqb (get_or s at 0) 39 || eqb (get_or s at 0) 34) ≡ true → Stuck s from (wanted from) at
mark_after_digits {s} {at = at} f h z e = after_digits f h z (λ n l xs q. ⊎_elim (λ m. rw m refl) (λ m. rw m refl) (is_mark (get_or s at 0) e))
