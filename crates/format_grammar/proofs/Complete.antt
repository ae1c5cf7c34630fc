-- Every grammatical text is read as its items.
-- Assumes nothing.
use mathlib.Core.Path.{◌≡◌, refl, ◌∙◌}
use mathlib.Core.List.{List}
use Prim.Native.Nat.{ℕ, ◌+◌}
use native.Mathlib.Nat.{add-sub_cancel}
use native.Mathlib.Omega.{arith}
use borrow.Author.Tests.{ne_eqb}
use lib.ListN.{get_or}
use Rattle.buffer.specs.Characters.{decimal_point, letter_i, letter_f, letter_l, letter_a, letter_t}
use Rattle.format_grammar.specs.Characters.{opening_bracket, slash_sign, closing_bracket, comma, letter_x, letter_s}
use Rattle.settings.specs.declared.SettingItem.{SettingItem}
use Rattle.settings.specs.declared.SettingItem.TheVariants.{SP, SS, S}
use Rattle.format_items.specs.Items.{Number, Repeat, Field, Items, join}
use Rattle.format_grammar.specs.Grammar.{At, RepeatAt, FieldAt, SettingAt, Nonterminal, Derives, Format}
use Rattle.format_grammar.specs.Reading.{Use, Mode, Open, State, Reading, step, step_within, wanted, begun, close, read_at, reading}
use Rattle.format_items.proofs.ItemLaws.{join_assoc, join_none}
use Rattle.format_grammar.proofs.ReadLaws.{two, read_byte, read_same, read_end, step_used}
use Rattle.format_grammar.proofs.NumberLaws.{not_digit, written_absent, read_after, read_repeat, Follows, follows, read_ended}
use Rattle.format_grammar.proofs.LiteralLaws.{read_literal}

-- ---- items

-- A without a width
read-A : (s : List ℕ) (a l : ℕ) (xs : Items) (q : Open) (r : Repeat) → Follows s a
    → read_at s a (State.within (Mode.digits (Use.width_a r) a 0) l xs q) ≡ read_at s a (State.within Mode.after l (join xs (Items.field r Field.A Items.none)) q)
unfolding step step_within
read-A s a l xs q r f =
    read_same s a (State.within (Mode.digits (Use.width_a r) a 0) l xs q) (State.within Mode.after l (join xs (Items.field r Field.A Items.none)) q)
    (λ z. step_used (Use.width_a r) a 0 a l xs q (get_or s a 0) (not_digit a a (get_or s a 0) f.no_digit) ∙ rw (written_absent a a 0 refl)) refl

read_field_lem : {s : List ℕ} {a b c : ℕ} {r : Repeat} {k : Field Number} → RepeatAt s a r b → FieldAt s b k c → Follows s c → (l : ℕ) (xs : Items) (q : Open)
    → read_at s a (State.within (wanted a) l xs q) ≡ read_at s c (State.within Mode.after l (join xs (Items.field r k Items.none)) q)
read_field_lem {r} rep (FieldAt.I {a} at w) f l xs q =
    read_repeat rep l xs q letter_i (State.within (Mode.digits (Use.width_i r) (a + 1) 0) l xs q) at refl refl (λ x y. refl)
    ∙ read_ended w f (Use.width_i r) l xs _ q (λ c. refl)
read_field_lem {r} rep (FieldAt.F {a} {b} {w} at n p d) f l xs q =
    read_repeat rep l xs q letter_f (State.within (Mode.digits (Use.width_f r) (a + 1) 0) l xs q) at refl refl (λ x y. refl)
    ∙ read_after n (Use.width_f r) l xs q decimal_point (State.within (Mode.digits (Use.places r w) (b + 1) 0) l xs q) p refl refl (λ x y. refl)
    ∙ read_ended d f (Use.places r w) l xs _ q (λ c. refl)
read_field_lem {r} rep (FieldAt.L {a} at w) f l xs q =
    read_repeat rep l xs q letter_l (State.within (Mode.digits (Use.width_l r) (a + 1) 0) l xs q) at refl refl (λ x y. refl)
    ∙ read_ended w f (Use.width_l r) l xs _ q (λ c. refl)
read_field_lem {s} {r} rep (FieldAt.A {a} at) f l xs q =
    read_repeat rep l xs q letter_a (State.within (Mode.digits (Use.width_a r) (a + 1) 0) l xs q) at refl refl (λ x y. refl)
    ∙ read-A s (a + 1) l xs q r f
read_field_lem {r} rep (FieldAt.Aw {a} at w) f l xs q =
    read_repeat rep l xs q letter_a (State.within (Mode.digits (Use.width_a r) (a + 1) 0) l xs q) at refl refl (λ x y. refl)
    ∙ read_ended w f (Use.width_a r) l xs _ q (λ c. refl)

-- an S: all of an item, or the first of two letters
read_s : {s : List ℕ} {a : ℕ} → At s a letter_s → (l : ℕ) (xs : Items) (q : Open) → read_at s a (State.within (wanted a) l xs q) ≡ read_at s (a + 1) (State.within Mode.letter l xs q)
read_s at l xs q = read_repeat RepeatAt.absent l xs q letter_s (State.within Mode.letter l xs q) at refl refl (λ x y. refl)

read_setting : {s : List ℕ} {a b : ℕ} {k : SettingItem} → SettingAt s a k b → Follows s b → (l : ℕ) (xs : Items) (q : Open)
    → read_at s a (State.within (wanted a) l xs q) ≡ read_at s b (State.within Mode.after l (join xs (Items.setting k Items.none)) q)
unfolding step step_within
read_setting (SettingAt.SP {a} here p) f l xs q =
    rw (two a)
    (read_s here l xs q ∙ read_byte (State.within Mode.letter l xs q) (State.within Mode.after l (join xs (Items.setting SP Items.none)) q) p refl (λ x y. refl))
read_setting (SettingAt.SS {a} here t) f l xs q =
    rw (two a)
    (read_s here l xs q ∙ read_byte (State.within Mode.letter l xs q) (State.within Mode.after l (join xs (Items.setting SS Items.none)) q) t refl (λ x y. refl))
read_setting {s} (SettingAt.S {a} here) f l xs q =
    read_s here l xs q
    ∙ read_same s (a + 1) (State.within Mode.letter l xs q) (State.within Mode.after l (join xs (Items.setting S Items.none)) q) (λ z. rw (f.no_p, f.no_s) refl) refl

step_close : (at l : ℕ) (xs : Items) (q : Open) → step at (State.within Mode.after l xs q) closing_bracket ≡ close l xs q
unfolding step step_within
step_close at l xs q = refl

step_comma : (at l : ℕ) (xs : Items) (q : Open) → step at (State.within Mode.after l xs q) comma ≡ State.within (wanted (at + 1)) l xs q
unfolding step step_within
step_comma at l xs q = refl

open_begun : (r : Repeat) (at l : ℕ) (xs : Items) (q : Open) → begun r at (l + 1) xs q opening_bracket ≡ State.within (wanted (at + 1)) l Items.none (Open.group xs r q)
open_begun r at l xs q = rw (ne_eqb (l + 1) 0 (λ z. omega arith), add-sub_cancel l 1)

-- what is derived leads from where an item may begin to where one has ended
read_derived : {s : List ℕ} {k : Nonterminal} {l a b : ℕ} {x : Items} → Derives s k l a x b → Follows s b → (xs : Items) (q : Open)
    → read_at s a (State.within (wanted a) l xs q) ≡ read_at s b (State.within Mode.after l (join xs x) q)
read_derived (Derives.field {l} rep k) f xs q = read_field_lem rep k f l xs q
read_derived (Derives.group {l} {b} {c} {r} {xs = ys} rep opens seq closes) f xs q =
    read_repeat rep (l + 1) xs q opening_bracket (State.within (wanted (b + 1)) l Items.none (Open.group xs r q)) opens refl (open_begun r b l xs q) (λ x y. refl)
    ∙ read_derived seq (follows closes refl refl refl refl refl) Items.none (Open.group xs r q)
    ∙ rw (join_none ys) (read_byte (State.within Mode.after l ys (Open.group xs r q)) (close l ys (Open.group xs r q)) closes (step_close c l ys (Open.group xs r q)) (λ x y. refl))
read_derived (Derives.X {l} {n} num at) f xs q = read_after num Use.start l xs q letter_x (State.within Mode.after l (join xs (Items.X n Items.none)) q) at refl refl (λ x y. refl)
read_derived (Derives.T {l} {a} at num) f xs q =
    read_repeat RepeatAt.absent l xs q letter_t (State.within (Mode.digits Use.column (a + 1) 0) l xs q) at refl refl (λ x y. refl)
    ∙ read_ended num f Use.column l xs _ q (λ c. refl)
read_derived (Derives.slash {l} {r} rep at) f xs q = read_repeat rep l xs q slash_sign (State.within Mode.after l (join xs (Items.slash r Items.none)) q) at refl refl (λ x y. refl)
read_derived (Derives.literal {l} lit) f xs q = read_literal lit f l xs q
read_derived (Derives.setting {l} set) f xs q = read_setting set f l xs q
read_derived (Derives.one item) f xs q = read_derived item f xs q
read_derived (Derives.more {l} {b} {xs = ys} {x = y} seq here item) f xs q =
    read_derived seq (follows here refl refl refl refl refl) xs q
    ∙ read_byte (State.within Mode.after l (join xs ys) q) (State.within (wanted (b + 1)) l (join xs ys) q) here (step_comma b l (join xs ys) q) (λ x y. refl)
    ∙ read_derived item f (join xs ys) q
    ∙ rw (join_assoc xs ys y)

pub complete : {s : List ℕ} {xs : Items} → Format s xs → reading s ≡ Reading.items xs
unfolding reading step
complete {s} {xs} h =
    read_byte State.begin (State.within (wanted 1) 4 Items.none Open.format) h.opens refl (λ x y. refl)
    ∙ read_derived h.items (follows h.closes refl refl refl refl refl) Items.none Open.format
    ∙ rw (join_none xs) (read_byte (State.within Mode.after 4 xs Open.format) (State.end xs) h.closes (step_close h.end 4 xs Open.format) (λ x y. refl))
    ∙ read_end s (h.end + 1) (State.end xs) (omega arith)
