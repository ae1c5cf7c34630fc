-- Numbers and repeats as they are read: from their first digit up to the byte after them.
-- Assumes nothing.
use mathlib.Core.Path.{◌≡◌, refl, ◌∙◌}
use mathlib.Core.Logic.{⊎_elim}
use mathlib.Core.Bool.{Bool, true, false, ◌&&◌}
use mathlib.Core.List.{List}
use Prim.Native.Nat.{ℕ, zero, suc, ◌+◌, ◌-◌, ◌*◌, ◌<◌, ◌≤◌}
use native.Mathlib.Nat.{add-zero}
use native.Mathlib.Omega.{arith}
use borrow.Author.Tests.{ne_eqb, eq-eqb}
use lib.Dec.{ltb, eqb}
use lib.ListN.{length, get_or}
use Rattle.number.specs.Digits.{is_digit, Digits, value}
use Rattle.number.proofs.DigitLaws.{value_none}
use Rattle.format_grammar.specs.Characters.{quotation_mark, apostrophe, letter_p, letter_s}
use Rattle.format_items.specs.Items.{Number, number, value_of, Repeat, Items}
use Rattle.format_grammar.specs.Grammar.{At, part, NumberAt, RepeatAt, Mark}
use Rattle.format_grammar.specs.Reading.{Use, Mode, Open, State, Reading, step, step_within, unless_dead, wanted, written, begun, used, separated, read_at}
use Rattle.format_grammar.proofs.ReadLaws.{read_step, read_byte, read_same, step_digit, step_used}
use Rattle.format_grammar.proofs.PartLaws.{part_none, value_more, digits_less}

pub not_digit : (at from b : ℕ) → is_digit b ≡ false → (ltb at (from + 3) && is_digit b) ≡ false
not_digit at from b e = go (ltb at (from + 3))
  where
    go : (t : Bool) → (t && is_digit b) ≡ false
    go true = e
    go false = refl

-- the number between two offsets
pub written_given : (a b v : ℕ) → (b ≡ a → ⊥) → written a b v ≡ Repeat.given (number a v)
written_given a b v h = rw (ne_eqb b a h)

pub written_absent : (a b v : ℕ) → b ≡ a → written a b v ≡ Repeat.absent
written_absent a b v e = rw (eq-eqb b a e)

-- digits from a on
read_digits_lem : (s : List ℕ) (u : Use) (a l : ℕ) (xs : Items) (q : Open) (k : ℕ) → k ≤ 3 → a + k ≤ length s → Digits (part s a (a + k))
    → read_at s a (State.within (Mode.digits u a 0) l xs q) ≡ read_at s (a + k) (State.within (Mode.digits u a (value (part s a (a + k)))) l xs q)
read_digits_lem s u a l xs q zero few h d = rw (add-zero a, part_none s a, value_none)
read_digits_lem s u a l xs q (suc k) few h d =
    let e : a + suc k ≡ a + k + 1 = omega arith in
    let g = digits_less s a (a + k) (omega arith) (omega arith) (rw e at d) in
    let v : ℕ = value (part s a (a + k)) in
    read_digits_lem s u a l xs q k (omega arith) (omega arith) g.0
    ∙ read_step s (a + k) (State.within (Mode.digits u a v) l xs q) (State.within (Mode.digits u a (v * 10 + (get_or s (a + k) 0 - 48))) l xs q)
    (omega arith) (step_digit u a v (a + k) l xs q (get_or s (a + k) 0) (omega arith) g.1 g.2) (λ x y. refl)
    ∙ rw (e, value_more s a (a + k) (omega arith) (omega arith))

pub read_number : {s : List ℕ} {a b : ℕ} {n : Number} → NumberAt s a n b → (u : Use) (l : ℕ) (xs : Items) (q : Open)
    → read_at s a (State.within (Mode.digits u a 0) l xs q) ≡ read_at s b (State.within (Mode.digits u a (value_of n)) l xs q)
read_number {s} {a} {b} {n} h u l xs q =
    let e : a + (b - a) ≡ b = omega arith in
    rw h.is (rw e at (read_digits_lem s u a l xs q (b - a) (omega arith) (omega arith) (rw e h.digits)))

-- the step at a byte after a number that is no digit
pub number_used : {s : List ℕ} {a b : ℕ} {n : Number} → NumberAt s a n b → (u : Use) (l : ℕ) (xs : Items) (q : Open) (c : ℕ) → is_digit c ≡ false
    → step b (State.within (Mode.digits u a (value_of n)) l xs q) c ≡ used u (Repeat.given n) b l xs q c
number_used {s} {a} {b} {n} h u l xs q c e =
    step_used u a (value_of n) b l xs q c (not_digit b a c e) ∙ rw (h.is, written_given a b (value (part s a b)) (λ z. omega (arith, h.some)))

-- a number, and a byte after it that is no digit
pub read_after : {s : List ℕ} {a b : ℕ} {n : Number} → NumberAt s a n b → (u : Use) (l : ℕ) (xs : Items) (q : Open) (c : ℕ) (to : State)
    → At s b c → is_digit c ≡ false → used u (Repeat.given n) b l xs q c ≡ to → ((x y : Reading) → unless_dead to x y ≡ y)
    → read_at s a (State.within (Mode.digits u a 0) l xs q) ≡ read_at s (b + 1) to
read_after {a} {n} h u l xs q c to here e f live =
    read_number h u l xs q
    ∙ read_byte (State.within (Mode.digits u a (value_of n)) l xs q) to here (number_used h u l xs q c e ∙ f) live

-- a repeat or none, and a byte after it that is no digit
pub read_repeat : {s : List ℕ} {a b : ℕ} {r : Repeat} → RepeatAt s a r b → (l : ℕ) (xs : Items) (q : Open) (c : ℕ) (to : State)
    → At s b c → is_digit c ≡ false → begun r b l xs q c ≡ to → ((x y : Reading) → unless_dead to x y ≡ y)
    → read_at s a (State.within (wanted a) l xs q) ≡ read_at s (b + 1) to
read_repeat (RepeatAt.absent {a}) l xs q c to here e f live =
    read_byte (State.within (wanted a) l xs q) to here (step_used Use.start a 0 a l xs q c (not_digit a a c e) ∙ rw (written_absent a a 0 refl) f) live
read_repeat (RepeatAt.given h) l xs q c to here e f live = read_after h Use.start l xs q c to here e f live

-- after an item: the byte at b is no digit, no mark, and no letter that goes on with an S
pub record Follows (s : List ℕ) (b : ℕ) : Type 0 where
  pub within : b < length s
  pub no_digit : is_digit (get_or s b 0) ≡ false
  pub no_mark : (m : ℕ) → Mark m → eqb (get_or s b 0) m ≡ false
  pub no_p : eqb (get_or s b 0) letter_p ≡ false
  pub no_s : eqb (get_or s b 0) letter_s ≡ false

pub follows : {s : List ℕ} {b c : ℕ} → At s b c → is_digit c ≡ false → eqb c apostrophe ≡ false → eqb c quotation_mark ≡ false → eqb c letter_p ≡ false → eqb c letter_s ≡ false → Follows s b
follows h e f g i j =
    record {
      within = h.within;
      no_digit = rw h.is e;
      no_mark = λ m k. rw h.is (⊎_elim (λ z. rw z f) (λ z. rw z g) k);
      no_p = rw h.is i;
      no_s = rw h.is j;
    }

-- a number that ends an item
pub read_ended : {s : List ℕ} {a b : ℕ} {n : Number} → NumberAt s a n b → Follows s b → (u : Use) (l : ℕ) (xs ys : Items) (q : Open)
    → ((c : ℕ) → used u (Repeat.given n) b l xs q c ≡ separated b l ys q c)
    → read_at s a (State.within (Mode.digits u a 0) l xs q) ≡ read_at s b (State.within Mode.after l ys q)
unfolding step step_within
read_ended {s} {a} {b} {n} h k u l xs ys q f =
    read_number h u l xs q
    ∙ read_same s b (State.within (Mode.digits u a (value_of n)) l xs q) (State.within Mode.after l ys q)
    (λ z. number_used h u l xs q (get_or s b 0) k.no_digit ∙ f (get_or s b 0)) refl
