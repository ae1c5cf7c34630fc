-- Items that are neither groups nor literals, from their beginning: the digits, if any, and the byte after them.
-- Assumes nothing.
use mathlib.Core.Path.{◌≡◌, refl, sym, ap, ◌∙◌, subst}
use mathlib.Core.Bool.{true, false}
use mathlib.Core.List.{List, [], ◌∷◌, ◌++◌, append-nil}
use Prim.Native.Nat.{ℕ, ◌+◌, ◌<◌}
use native.Mathlib.Omega.{arith}
use borrow.Author.Tests.{ne_eqb}
use lib.ListN.{length, get_or}
use Rattle.std.specs.Prelude.{Option, Some, None, is_some, unwrap_or, Result, Ok, Err}
use Rattle.buffer.specs.Characters.{letter_i, letter_f, letter_l, letter_a, letter_t}
use Rattle.format_grammar.specs.Characters.{quotation_mark, apostrophe, opening_bracket, slash_sign, letter_x, letter_s}
use Rattle.format_items.specs.Items.{Number, number, Repeat, times, Items, join}
use Rattle.format_items.specs.Ranges.{range_n, repeat_numbers, numbers}
use Rattle.format_items.specs.Met.{Met}
use Rattle.format_grammar.specs.Reading.{Use, Mode, Open, State, wanted, begun}
use Rattle.format_words.specs.declared.Word.{Word}
use Rattle.format_words.specs.declared.Word.TheVariants as word
use Rattle.format_words.specs.Held.{First}
use Rattle.format_read.specs.Steps.{number_at, NumberFound, outside_after, found, ItemRead, Stuck, item_read, NoBracketOrMark}
use Rattle.format_read.specs.declared.Found.{Found}
use Rattle.format_read.specs.declared.Single.{Single}
use Rattle.format_read.specs.declared.Ungrammatical.{Ungrammatical}
use Rattle.format_read.proofs.SingleSteps.{Ends, one_missing, one_read, ends-T, not_some, times_at, times_few, numbers_small, outside_append, number_stuck, number_on}

module _ {s : List ℕ} {from at : ℕ} {v : Option ℕ} (f : NumberFound s from v at) (h : at < length s) where
  -- a letter that leads to the mode m
  pub begun_read : (m : Mode) → ((l : ℕ) (xs : Items) (q : Open) → begun (number_at from v) at l xs q (get_or s at 0) ≡ State.within m l xs q)
      → (o o₁ o₂ : Option ℕ) → o₁ ≡ outside_after o (repeat_numbers (number_at from v)) → (x : Result Single Ungrammatical) → item_read s (at + 1) m (repeat_numbers (number_at from v)) (at + 1) o₁ o₂ x → item_read s from (wanted from) [] (from + 1) o o₂ x
  begun_read m g o o₁ o₂ out (Ok x) i =
      let k = number_at from v in
      record {
        item = i.item;
        late = repeat_numbers k ++ i.late;
        first = i.first;
        runs = λ l xs q. number_on f Use.start h (State.within m) g (λ l xs q a b. refl) l xs q ∙ i.runs l xs q;
        no_literal = i.no_literal;
        no_characters = i.no_characters;
        small = i.small;
        few = λ a. i.few (numbers_small from v f.small);
        numbers_are = i.numbers_are;
        outside_is = i.outside_is ∙ ap (λ (z : Option ℕ). outside_after z i.late) out ∙ sym (outside_append o (repeat_numbers k) i.late);
        more = omega (arith, f.low, i.more);
        high = i.high;
      }
  begun_read m g o o₁ o₂ out (Err x) i = λ l xs q. number_on f Use.start h (State.within m) g (λ l xs q a b. refl) l xs q ∙ i l xs q

  -- a byte that no item goes on with
  pub begun_stuck : ((l : ℕ) (xs : Items) (q : Open) → begun (number_at from v) at l xs q (get_or s at 0) ≡ State.dead) → Stuck s from (wanted from) at
  begun_stuck g = number_stuck f Use.start g

  pub slash_read : get_or s at 0 ≡ slash_sign → (r : ℕ) → r ≡ unwrap_or v 1 → (o o₁ : Option ℕ) → o₁ ≡ outside_after o (repeat_numbers (number_at from v)) → ItemRead s from (wanted from) [] (from + 1) o word.Slash r (at + 1) o₁
  unfolding numbers
  slash_read g r rep o o₁ out =
      let k = number_at from v in
      record {
        item = Items.slash k Items.none;
        late = repeat_numbers k;
        first = λ t. subst (λ (m : ℕ). First (Items.slash k Items.none) m Met.slash Items.none) (times_at from v ∙ sym rep) First.slash;
        runs = number_on f Use.start h (λ l xs q. State.within Mode.after l (join xs (Items.slash k Items.none)) q) (λ l xs q. rw g) (λ l xs q a b. refl);
        no_literal = λ start n e. cc;
        no_characters = refl;
        small = omega arith;
        few = λ a. omega (arith, rep, times_few v f.small);
        numbers_are = append-nil (repeat_numbers k);
        outside_is = out;
        more = omega (arith, f.low);
        high = omega arith;
      }

  pub begun_other : NoBracketOrMark (get_or s at 0) → (get_or s at 0 ≡ letter_i → ⊥) → (get_or s at 0 ≡ letter_f → ⊥) → (get_or s at 0 ≡ letter_l → ⊥) → (get_or s at 0 ≡ letter_a → ⊥) → (get_or s at 0 ≡ letter_t → ⊥) → (get_or s at 0 ≡ letter_x → ⊥) → (get_or s at 0 ≡ letter_s → ⊥) → (get_or s at 0 ≡ slash_sign → ⊥)
      → Stuck s from (wanted from) at
  begun_other n i j l a t x y d =
      let b = get_or s at 0 in
      begun_stuck (λ l' xs q. simp (ne_eqb b letter_i i, ne_eqb b letter_f j, ne_eqb b letter_l l, ne_eqb b letter_a a, ne_eqb b opening_bracket n.no_bracket, ne_eqb b letter_x x, ne_eqb b letter_t t, ne_eqb b letter_s y, ne_eqb b slash_sign d, ne_eqb b apostrophe n.no_apostrophe, ne_eqb b quotation_mark n.no_quotation_mark))

pub X-read : {s : List ℕ} {from v at : ℕ} → NumberFound s from (Some v) at → at < length s → get_or s at 0 ≡ letter_x → (o o₁ : Option ℕ) → o₁ ≡ outside_after o (repeat_numbers (Repeat.given (number from v)))
    → ItemRead s from (wanted from) [] (from + 1) o (word.X v) 1 (at + 1) o₁
unfolding numbers
X-read {s} {from} {v} {at} f h g o o₁ out =
    let n = number from v in
    record {
      item = Items.X n Items.none;
      late = range_n n ∷ [];
      first = λ t. First.X;
      runs = number_on f Use.start h (λ l xs q. State.within Mode.after l (join xs (Items.X n Items.none)) q) (λ l xs q. rw g) (λ l xs q a b. refl);
      no_literal = λ start n e. cc;
      no_characters = refl;
      small = omega arith;
      few = λ a. omega arith;
      numbers_are = refl;
      outside_is = out;
      more = omega (arith, f.low);
      high = omega arith;
    }

-- a letter that asks for one number
module _ {s : List ℕ} {from at high : ℕ} {v : Option ℕ} {u : Use} {k : Repeat} {w : ℕ → Word} (f : NumberFound s from v at) (h : at < length s) (is : k ≡ number_at from v) (e : Ends u k w high)
    (letter : (l : ℕ) (xs : Items) (q : Open) → begun (number_at from v) at l xs q (get_or s at 0) ≡ State.within (Mode.digits u (at + 1) 0) l xs q) where
  pub letter_missing : {x : Ungrammatical} → NumberFound s (at + 1) None x.place → (o : Option ℕ) → Stuck s from (wanted from) x.place
  letter_missing {x} g o = begun_read f h (Mode.digits u (at + 1) 0) letter o _ o refl (Err x) (one_missing e g)

  pub letter_read : {x : Found} (o o₁ o₂ : Option ℕ) → o₁ ≡ outside_after o (repeat_numbers (number_at from v)) → found s (at + 1) high o₁ o₂ (Ok x) → (r : ℕ) → times k ≡ r
      → ItemRead s from (wanted from) [] (from + 1) o (w x.value) r x.next o₂
  letter_read {x} o o₁ o₂ out g r rep =
      begun_read f h (Mode.digits u (at + 1) 0) letter o o₁ o₂ out (Ok (record { word = w x.value; repeat = r; next = x.next }))
      (subst (λ z. ItemRead s (at + 1) (Mode.digits u (at + 1) 0) (repeat_numbers z) (at + 1) o₁ (w x.value) r x.next o₂) is (one_read e g.0 r rep o₁ o₂ g.1))

-- what no digit may stand before
pub after_digits : {s : List ℕ} {from at : ℕ} {v : Option ℕ} → NumberFound s from v at → at < length s → is_some v ≡ true
    → ((n : Number) (l : ℕ) (xs : Items) (q : Open) → begun (Repeat.given n) at l xs q (get_or s at 0) ≡ State.dead) → Stuck s from (wanted from) at
after_digits {v = None} f h e g = absurd (cc)
after_digits {from} {v = Some v} f h e g = begun_stuck f h (g (number from v))

-- T, with no digit before it
module _ {s : List ℕ} {from at : ℕ} {v : Option ℕ} (f : NumberFound s from v at) (h : at < length s) (g : get_or s at 0 ≡ letter_t) (e : is_some v ≡ false) where
  none_before : v ≡ None
  none_before = not_some v e

  -- the letter, and the number that it asks for
  column_on : (l : ℕ) (xs : Items) (q : Open) → begun (number_at from v) at l xs q (get_or s at 0) ≡ State.within (Mode.digits Use.column (at + 1) 0) l xs q
  column_on l xs q = rw (g, none_before)

  absent_is : Repeat.absent ≡ number_at from v
  absent_is = rw none_before

  pub T-missing : {x : Ungrammatical} → NumberFound s (at + 1) None x.place → (o : Option ℕ) → Stuck s from (wanted from) x.place
  T-missing m o = letter_missing f h absent_is ends-T column_on m o

  pub T-read : {x : Found} (o o₁ o₂ : Option ℕ) → o₁ ≡ outside_after o (repeat_numbers (number_at from v)) → found s (at + 1) 255 o₁ o₂ (Ok x)
      → ItemRead s from (wanted from) [] (from + 1) o (word.T x.value) 1 x.next o₂
  T-read o o₁ o₂ out m = letter_read f h absent_is ends-T column_on o o₁ o₂ out m 1 refl
