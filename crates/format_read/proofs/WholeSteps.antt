-- The whole format: an opening bracket, its items up to the closing one, and nothing behind.
-- Assumes nothing.
use mathlib.Core.Path.{◌≡◌, refl, ◌∙◌, subst}
use mathlib.Core.Bool.{Bool, true, false, cond}
use mathlib.Core.List.{List, [], ◌∷◌}
use Prim.Native.Nat.{ℕ, ◌-◌, ◌<◌, ◌≤◌}
use native.Mathlib.Omega.{arith}
use borrow.Author.Tests.{ne_eqb}
use lib.ListN.{length, get_or, take}
use Rattle.std.specs.Prelude.{Some, None}
use Rattle.format_items.specs.Items.{Items, join}
use Rattle.format_items.specs.Ranges.{Ranged, outside, place, first_outside, numbers}
use Rattle.format_grammar.specs.Reading.{Open, State, Reading, step, wanted, close, read_at, reading}
use Rattle.format_grammar.proofs.ReadLaws.{read_step, read_dead, read_end, read_stuck}
use Rattle.format_words.specs.declared.Entry.{Entry}
use Rattle.format_words.specs.Held.{Holds}
use Rattle.format_read.specs.Steps.{outside_after, Took}
use Rattle.format_read.specs.Whole.{ItemsRead}
use Rattle.format_read.specs.declared.Position.{Position}
use Rattle.format_read.proofs.TakeSteps.{within_text}

-- ---- the first number out of range

outside_stays : (p : ℕ) (ns : List Ranged) → outside_after (Some p) ns ≡ Some p
unfolding outside_after
outside_stays p [] = refl
outside_stays p (n ∷ ns) = outside_stays p ns

outside_first : (ns : List Ranged) → outside_after None ns ≡ first_outside ns
unfolding outside_after first_outside
outside_first [] = refl
outside_first (n ∷ ns) = go (outside n) (outside_first ns)
  where
    go : (b : Bool) → outside_after None ns ≡ first_outside ns → outside_after (cond b (Some (place n)) None) ns ≡ cond b (Some (place n)) (first_outside ns)
    go true rest = outside_stays (place n) ns
    go false rest = rest

-- ---- the brackets

module _ (s : List ℕ) where
  pub whole_other : (0 < length s → get_or s 0 0 ≡ 40 → ⊥) → reading s ≡ Reading.wrong 0
  unfolding reading step
  whole_other e = read_stuck s 0 State.begin (λ h. simp (ne_eqb (get_or s 0 0) 40 (e h))) refl

  module _ (h : 0 < length s) (e : get_or s 0 0 ≡ 40) where
    pub whole_begun : reading s ≡ read_at s 1 (State.within (wanted 1) 4 Items.none Open.format)
    unfolding reading step
    whole_begun = read_step s 0 State.begin (State.within (wanted 1) 4 Items.none Open.format) h (rw e) (λ a b. refl)

    pub whole_wrong : {x : ℕ} → ((xs : Items) (q : Open) → read_at s 1 (State.within (wanted 1) 4 xs q) ≡ Reading.wrong x) → reading s ≡ Reading.wrong x
    whole_wrong w = whole_begun ∙ w Items.none Open.format

-- after the first bracket, at which there are no entries and characters yet
pub record First (p : Position) : Type 0 where
  pub at_is : p.at ≡ 1
  pub no_entries : p.entries ≡ 0
  pub no_chars : p.chars ≡ 0
  pub none_outside : p.outside ≡ None

module _ {p p' : Position} (f : First p) (h : 0 < length p.text.now) (e : get_or p.text.now 0 0 ≡ 40) {a b : List Entry} {t u : List ℕ} (k : Took 4 (wanted p.at) close p a t p' b u) where
  runs : reading p.text.now ≡ read_at p.text.now p'.at (close 4 (join Items.none k.items) Open.format)
  runs = whole_begun p.text.now h e ∙ rw f.at_is at (k.runs Items.none Open.format)

  pub whole_more : p'.at < length p.text.now → reading p.text.now ≡ Reading.wrong p'.at
  unfolding join step
  whole_more g = runs ∙ read_dead p.text.now p'.at (State.end k.items) g refl

  pub whole_read : length p.text.now ≤ p'.at → ItemsRead p.text.now b u p'
  unfolding join
  whole_read g =
      record {
        read = k.items;
        is = runs ∙ read_end p.text.now p'.at (State.end k.items) g;
        holds = let all : p'.entries - 0 ≡ p'.entries = omega arith in subst (λ (n : ℕ). Holds u p'.chars 4 (take n b) k.items) all (rw f.no_entries at k.holds);
        outside_is = k.outside_is ∙ rw f.none_outside (outside_first (numbers k.items));
        few_entries = omega (arith, p'.few_entries, within_text p p' k.same_text);
        few_chars = omega (arith, p'.few_chars, within_text p p' k.same_text);
      }
