-- Every state that a text leads to, but the dead one, can be led to the end of a format by more bytes.
-- Assumes nothing.
use mathlib.Core.Path.{◌≡◌, refl, ◌∙◌}
use mathlib.Core.Logic.{⊎_elim}
use mathlib.Core.Bool.{false}
use mathlib.Core.List.{List, [], ◌∷◌, ◌++◌}
use Prim.Native.Nat.{ℕ, ◌+◌, ◌-◌, ◌*◌, ◌<◌, ◌≤◌}
use native.Mathlib.Omega.{arith}
use native.Mathlib.Decide.{dec_lt}
use lib.Dec.{eqb}
use Rattle.buffer.specs.Characters.{decimal_point}
use Rattle.number.specs.Digits.{is_digit}
use Rattle.format_grammar.specs.Characters.{opening_bracket, slash_sign, closing_bracket}
use Rattle.settings.specs.declared.SettingItem.TheVariants.{S}
use Rattle.format_items.specs.Items.{Number, number, Repeat, Field, Items, join}
use Rattle.format_grammar.specs.Grammar.{Mark}
use Rattle.format_grammar.specs.Reading.{Use, Mode, Open, State, Reading, step, step_within, used, written, close, unless_dead, is_empty, read_from}
use Rattle.format_grammar.proofs.ReadLaws.{step_digit, step_used, close_live}
use Rattle.format_grammar.proofs.NumberLaws.{not_digit, written_given}
use Rattle.format_grammar.proofs.LiteralLaws.{step_mark, step_again, step_behind}
use Rattle.format_grammar.proofs.Reached.{UsedAt, Reached}

pub record Ends (at : ℕ) (st : State) : Type 0 where
  pub text : List ℕ
  pub items : Items
  pub ends : read_from at st text ≡ Reading.items items

abbrev Live : State → Type 0
Live st = (a b : Reading) → unless_dead st a b ≡ b

-- one byte before
ends_by : (at : ℕ) (st : State) (b : ℕ) (to : State) → step at st b ≡ to → Live to → Ends (at + 1) to → Ends at st
unfolding read_from
ends_by at st b to e live h = record { text = b ∷ h.text; items = h.items; ends = rw e (live _ _ ∙ h.ends) }

closes : (q : Open) (at l : ℕ) (xs : Items) → Ends at (close l xs q)
unfolding read_from step step_within
closes Open.format at l xs = record { text = []; items = xs; ends = refl }
closes (Open.group before r q) at l xs =
    let ys : Items = join before (Items.group r xs Items.none) in
    ends_by at (State.within Mode.after (l + 1) ys q) closing_bracket (close (l + 1) ys q) refl (close_live (l + 1) ys q) (closes q (at + 1) (l + 1) ys)

after_ends : (at l : ℕ) (xs : Items) (q : Open) → Ends at (State.within Mode.after l xs q)
unfolding step step_within
after_ends at l xs q = ends_by at _ closing_bracket (close l xs q) refl (close_live l xs q) (closes q (at + 1) l xs)

-- ---- numbers

module _ (l : ℕ) (xs : Items) (q : Open) (u : Use) (c : ℕ) (to : Number → ℕ → State) (no_digit : is_digit c ≡ false)
    (does : (n : Number) (at : ℕ) → used u (Repeat.given n) at l xs q c ≡ to n at) (live : (n : Number) (at : ℕ) → Live (to n at)) (more : (n : Number) (at : ℕ) → Ends (at + 1) (to n at)) where
  -- after one digit or more, the byte c
  some_ends : (from v at : ℕ) → from < at → Ends at (State.within (Mode.digits u from v) l xs q)
  some_ends from v at h =
      let n : Number = number from v in
      ends_by at _ c (to n at) (step_used u from v at l xs q c (not_digit at from c no_digit) ∙ rw (written_given from at v (λ z. omega arith)) (does n at)) (live n at) (more n at)

  -- before the first digit, a digit 1 first
  number_ends : (from v at : ℕ) → from ≤ at → Ends at (State.within (Mode.digits u from v) l xs q)
  number_ends from v at h = go (dec_lt from at)
    where
      go : Dec (from < at) → Ends at (State.within (Mode.digits u from v) l xs q)
      go (yes k) = some_ends from v at k
      go (no k) =
          let w : ℕ = v * 10 + (49 - 48) in
          ends_by at _ 49 (State.within (Mode.digits u from w) l xs q) (step_digit u from v at l xs q 49 (omega arith) (omega arith) (omega arith)) (λ a b. refl) (some_ends from w (at + 1) (omega arith))

-- a number that ends an item
last_ends : (l : ℕ) (xs : Items) (q : Open) (u : Use) (x : Number → Items) → ((n : Number) (at : ℕ) → used u (Repeat.given n) at l xs q closing_bracket ≡ close l (join xs (x n)) q)
    → (from v at : ℕ) → from ≤ at → Ends at (State.within (Mode.digits u from v) l xs q)
last_ends l xs q u x does =
    number_ends l xs q u closing_bracket (λ n at. close l (join xs (x n)) q) refl does (λ n at. close_live l (join xs (x n)) q) (λ n at. closes q (at + 1) l (join xs (x n)))

used_ends : {s : List ℕ} {a o : ℕ} {u : Use} → UsedAt s a u o → (l : ℕ) (xs : Items) (q : Open) (v at : ℕ) → o ≤ at → Ends at (State.within (Mode.digits u o v) l xs q)
used_ends (UsedAt.start {a}) l xs q v at h =
    ends_by at _ slash_sign (State.within Mode.after l (join xs (Items.slash (written a at v) Items.none)) q) (step_used Use.start a v at l xs q slash_sign (not_digit at a slash_sign refl)) (λ x y. refl) (after_ends (at + 1) l _ q)
used_ends (UsedAt.width_i {b} {r} rep k) l xs q v at h = last_ends l xs q (Use.width_i r) (λ n. Items.field r (Field.I n) Items.none) (λ n i. refl) (b + 1) v at h
used_ends (UsedAt.width_f {b} {r} rep k) l xs q v at h =
    number_ends l xs q (Use.width_f r) decimal_point (λ n i. State.within (Mode.digits (Use.places r n) (i + 1) 0) l xs q) refl (λ n i. refl) (λ n i x y. refl)
    (λ n i. last_ends l xs q (Use.places r n) (λ d. Items.field r (Field.F n d) Items.none) (λ d j. refl) (i + 1) 0 (i + 1) (omega arith))
    (b + 1) v at h
used_ends (UsedAt.width_l {b} {r} rep k) l xs q v at h = last_ends l xs q (Use.width_l r) (λ n. Items.field r (Field.L n) Items.none) (λ n i. refl) (b + 1) v at h
used_ends (UsedAt.width_a {b} {r} rep k) l xs q v at h = last_ends l xs q (Use.width_a r) (λ n. Items.field r (Field.Aw n) Items.none) (λ n i. refl) (b + 1) v at h
used_ends (UsedAt.places {c} {r} {w} rep k n p) l xs q v at h = last_ends l xs q (Use.places r w) (λ d. Items.field r (Field.F w d) Items.none) (λ d i. refl) (c + 1) v at h
used_ends (UsedAt.column {a} k) l xs q v at h = last_ends l xs q Use.column (λ n. Items.T n Items.none) (λ n i. refl) (a + 1) v at h

-- ---- literals

some_character : (cs : List ℕ) (c : ℕ) → is_empty (cs ++ c ∷ []) ≡ false
some_character [] c = refl
some_character (x ∷ cs) c = refl

bracket_no_mark : (m : ℕ) → Mark m → eqb closing_bracket m ≡ false
bracket_no_mark m h = ⊎_elim (λ e. rw e refl) (λ e. rw e refl) h

-- a doubled mark, the closing mark and a closing bracket
mark_ends : (m : ℕ) → Mark m → (cs : List ℕ) (at l : ℕ) (xs : Items) (q : Open) → Ends at (State.within (Mode.mark m cs) l xs q)
unfolding step step_within
mark_ends m mk cs at l xs q =
    let ds : List ℕ = cs ++ m ∷ [] in
    let ys : Items = join xs (Items.literal ds Items.none) in
    ends_by at _ m (State.within (Mode.inside m ds) l xs q) (step_again m cs at l xs q) (λ a b. refl)
    (ends_by (at + 1) _ m (State.within (Mode.mark m ds) l xs q) (step_mark m ds (at + 1) l xs q) (λ a b. refl)
    (ends_by (at + 1 + 1) _ closing_bracket (close l ys q) (step_behind m ds (at + 1 + 1) l xs q closing_bracket (bracket_no_mark m mk) (some_character cs m)) (close_live l ys q) (closes q (at + 1 + 1 + 1) l ys)))

pub state_ends : {s : List ℕ} {at : ℕ} {st : State} → Reached s at st → (st ≡ State.dead → ⊥) → Ends at st
unfolding read_from step step_within
state_ends Reached.begin h = record { text = opening_bracket ∷ slash_sign ∷ closing_bracket ∷ []; items = _; ends = refl }
state_ends (Reached.digits {v} {l} {at} {xs} {q} g u d) h = used_ends u l xs q v at d.low
state_ends (Reached.inside {m} {l} {at} {cs} {xs} {q} g k) h =
    ends_by at _ m (State.within (Mode.mark m cs) l xs q) (step_mark m cs at l xs q) (λ a b. refl) (mark_ends m k.mark cs (at + 1) l xs q)
state_ends (Reached.mark {m} {l} {b} {cs} {xs} {q} g k here) h = mark_ends m k.mark cs (b + 1) l xs q
state_ends (Reached.letter {l} {a} {xs} {q} g here) h =
    let ys : Items = join xs (Items.setting S Items.none) in
    ends_by (a + 1) _ closing_bracket (close l ys q) refl (close_live l ys q) (closes q (a + 1 + 1) l ys)
state_ends (Reached.after {l} {at} {xs} {q} bracket seq) h = after_ends at l xs q
state_ends (Reached.end {xs} opens seq closed) h = record { text = []; items = xs; ends = refl }
state_ends Reached.dead h = absurd (h refl)
