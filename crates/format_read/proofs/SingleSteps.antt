-- Items that are neither groups nor literals: what follows from the numbers found in them.
-- Assumes nothing.
use mathlib.Core.Path.{◌≡◌, refl, sym, ap, ◌∙◌, subst}
use mathlib.Core.Bool.{Bool, true, false}
use mathlib.Core.List.{List, [], ◌∷◌, ◌++◌, append-nil}
use Prim.Native.Nat.{ℕ, ◌+◌, ◌<◌, ◌≤◌}
use native.Mathlib.Omega.{arith}
use borrow.Author.Tests.{eq-eqb, ne_eqb}
use lib.Dec.{eqb}
use lib.ListN.{length, get_or}
use Rattle.std.specs.Prelude.{Option, Some, None, is_some, unwrap_or, Result, Err, IsErrAnd}
use Rattle.std.specs.Option.{ok_or}
use Rattle.std.proofs.lemmas.Result.{err_from_is_err_and}
use Rattle.settings.specs.declared.SettingItem.{SettingItem}
use Rattle.settings.specs.declared.SettingItem.TheVariants.{SP, SS, S}
use Rattle.format_items.specs.Items.{Number, number, value_of, Repeat, times, Field, Items, join}
use Rattle.format_items.specs.Ranges.{Ranged, range_w, range_d, ranged, repeat_numbers, field_numbers, numbers}
use Rattle.format_items.specs.Met.{Met}
use Rattle.format_grammar.specs.Characters.{letter_p, letter_s}
use Rattle.format_grammar.specs.Reading.{Use, Mode, Open, State, Reading, pick, step, step_within, unless_dead, used, separated, lettered, read_at}
use Rattle.format_grammar.proofs.ReadLaws.{read_step, read_end, read_same, read_stuck, step_used}
use Rattle.format_words.specs.Words.{met_of, reach}
use Rattle.format_words.specs.Packing.{detail_of}
use Rattle.format_words.specs.declared.Word.{Word}
use Rattle.format_words.specs.declared.Word.TheVariants as word
use Rattle.format_words.specs.Held.{First}
use Rattle.format_read.specs.Steps.{number_at, NumberFound, keep_first, outside_after, AllSmall, ItemRead, Stuck}

-- ---- numbers out of range

pub outside_append : (o : Option ℕ) (ns ms : List Ranged) → outside_after o (ns ++ ms) ≡ outside_after (outside_after o ns) ms
unfolding outside_after
outside_append o [] ms = refl
outside_append o (n ∷ ns) ms = outside_append (keep_first o n) ns ms

pub outside_one : (o : Option ℕ) (n : Ranged) → outside_after o (n ∷ []) ≡ keep_first o n
unfolding outside_after
outside_one o n = refl

pub outside_none : (o : Option ℕ) → outside_after o [] ≡ o
unfolding outside_after
outside_none o = refl

-- ---- what a `?` returns

-- the error that it passes on
pub passed_on : {T E : Type 0} {r : Result T E} {e : E} → IsErrAnd r (λ y. y ≡ e) → r ≡ Err e
passed_on {r} h = let p = err_from_is_err_and r h in p.1 ∙ ap Err p.2

-- that of an absent value
pub absent : {A E : Type 0} (v : Option A) {e d : E} → ◌≡◌ {A = Result A E} (Err d) (ok_or v e) → (v ≡ None) × (d ≡ e)
absent None h = (refl, (cc))
absent (Some x) h = absurd (cc)

pub not_some : {A : Type 0} (v : Option A) → is_some v ≡ false → v ≡ None
not_some None h = refl
not_some (Some x) h = absurd (cc)

-- ---- how often a number repeats an item, once where there is none

pub times_at : (at : ℕ) (v : Option ℕ) → times (number_at at v) ≡ unwrap_or v 1
times_at at None = refl
times_at at (Some v) = refl

-- below 1,000, as a number of three digits is
pub times_few : (v : Option ℕ) → unwrap_or v 0 < 1000 → unwrap_or v 1 < 1000
times_few None h = omega arith
times_few (Some v) h = h

pub numbers_small : (at : ℕ) (v : Option ℕ) → unwrap_or v 0 < 1000 → AllSmall (repeat_numbers (number_at at v))
numbers_small at None h = tt
numbers_small at (Some v) h = (h, tt)

pub repeat_few : (k : Repeat) {r : ℕ} → times k ≡ r → AllSmall (repeat_numbers k) → r < 1000
repeat_few Repeat.absent rep a = omega arith
repeat_few (Repeat.given n) rep a = omega (arith, rep, a.0)

-- ---- the byte after a number

pub pick_same : (t : Bool) (a : State) → pick t a a ≡ a
pick_same true a = refl
pick_same false a = refl

module _ {s : List ℕ} {from at : ℕ} {v : Option ℕ} (f : NumberFound s from v at) (u : Use) where
  -- the text ends after it
  pub number_last : length s ≤ at → Stuck s from (Mode.digits u from 0) at
  number_last h l xs q = f.runs u l xs q ∙ read_end s at _ h

  after : (l : ℕ) (xs : Items) (q : Open) → at < length s → step at (State.within (Mode.digits u from (unwrap_or v 0)) l xs q) (get_or s at 0) ≡ used u (number_at from v) at l xs q (get_or s at 0)
  after l xs q h = step_used u from (unwrap_or v 0) at l xs q (get_or s at 0) (f.stops h) ∙ ap (λ (k : Repeat). used u k at l xs q (get_or s at 0)) f.number_is

  -- it ends an item
  pub number_ends : (x : Items) → ((l : ℕ) (xs : Items) (q : Open) (b : ℕ) → used u (number_at from v) at l xs q b ≡ separated at l (join xs x) q b)
      → (l : ℕ) (xs : Items) (q : Open) → read_at s from (State.within (Mode.digits u from 0) l xs q) ≡ read_at s at (State.within Mode.after l (join xs x) q)
  unfolding step step_within
  number_ends x g l xs q = f.runs u l xs q ∙ read_same s at _ (State.within Mode.after l (join xs x) q) (λ h. after l xs q h ∙ g l xs q (get_or s at 0)) refl

  -- no item goes on after it
  pub number_stuck_at : (l : ℕ) (xs : Items) (q : Open) → used u (number_at from v) at l xs q (get_or s at 0) ≡ State.dead → read_at s from (State.within (Mode.digits u from 0) l xs q) ≡ Reading.wrong at
  number_stuck_at l xs q g = f.runs u l xs q ∙ read_stuck s at _ (λ h. after l xs q h ∙ g) refl

  pub number_stuck : ((l : ℕ) (xs : Items) (q : Open) → used u (number_at from v) at l xs q (get_or s at 0) ≡ State.dead) → Stuck s from (Mode.digits u from 0) at
  number_stuck g l xs q = number_stuck_at l xs q (g l xs q)

  -- the byte after it goes on
  pub number_on_at : at < length s → (l : ℕ) (xs : Items) (q : Open) (to : State) → used u (number_at from v) at l xs q (get_or s at 0) ≡ to → ((a b : Reading) → unless_dead to a b ≡ b)
      → read_at s from (State.within (Mode.digits u from 0) l xs q) ≡ read_at s (at + 1) to
  number_on_at h l xs q to g live = f.runs u l xs q ∙ read_step s at _ to h (after l xs q h ∙ g) live

  pub number_on : at < length s → (to : ℕ → Items → Open → State) → ((l : ℕ) (xs : Items) (q : Open) → used u (number_at from v) at l xs q (get_or s at 0) ≡ to l xs q) → ((l : ℕ) (xs : Items) (q : Open) (a b : Reading) → unless_dead (to l xs q) a b ≡ b)
      → (l : ℕ) (xs : Items) (q : Open) → read_at s from (State.within (Mode.digits u from 0) l xs q) ≡ read_at s (at + 1) (to l xs q)
  number_on h to g live l xs q = number_on_at h l xs q (to l xs q) (g l xs q) (live l xs q)

-- ---- I, L and T: one number

-- one number, from 1 to `high`, ends an item whose repeat is k and whose word is w of its value
pub record Ends (u : Use) (k : Repeat) (w : ℕ → Word) (high : ℕ) : Type 0 where
  pub item : Number → Items
  pub needed : (at l : ℕ) (xs : Items) (q : Open) (b : ℕ) → used u Repeat.absent at l xs q b ≡ State.dead
  pub enough : (n : Number) (at l : ℕ) (xs : Items) (q : Open) (b : ℕ) → used u (Repeat.given n) at l xs q b ≡ separated at l (join xs (item n)) q b
  pub first : (t : List ℕ) (n : Number) → First (item n) (times k) (met_of t (w (value_of n))) Items.none
  pub no_literal : (v start n : ℕ) → w v ≡ word.Literal start n → ⊥
  pub no_characters : (v : ℕ) → reach (w v) ≡ 0
  pub no_detail : (v : ℕ) → detail_of (w v) ≡ 0
  pub numbers_are : (n : Number) → numbers (item n) ≡ repeat_numbers k ++ ranged n 1 high ∷ []

module _ {s : List ℕ} {at next : ℕ} {u : Use} {k : Repeat} {w : ℕ → Word} {high : ℕ} (e : Ends u k w high) where
  pub one_missing : NumberFound s at None next → Stuck s at (Mode.digits u at 0) next
  one_missing f = number_stuck f u (λ l xs q. e.needed next l xs q (get_or s next 0))

  pub one_read : {v : ℕ} → NumberFound s at (Some v) next → (r : ℕ) → times k ≡ r → (o o' : Option ℕ) → o' ≡ keep_first o (ranged (number at v) 1 high)
      → ItemRead s at (Mode.digits u at 0) (repeat_numbers k) at o (w v) r next o'
  one_read {v} f r rep o o' out =
      let n = number at v in
      record {
        item = e.item n;
        late = ranged n 1 high ∷ [];
        first = λ t. subst (λ (m : ℕ). First (e.item n) m (met_of t (w v)) Items.none) rep (e.first t n);
        runs = number_ends f u (e.item n) (λ l xs q b. e.enough n next l xs q b);
        no_literal = e.no_literal v;
        no_characters = e.no_characters v;
        small = omega (arith, e.no_detail v);
        few = repeat_few k rep;
        numbers_are = e.numbers_are n;
        outside_is = out ∙ sym (outside_one o (ranged n 1 high));
        more = f.low;
        high = f.high;
      }

-- ---- what each letter asks for

-- a field of one width
module _ {u : Use} {k : Repeat} {w : ℕ → Word} (field : Number → Field Number) where
  ends_field : ((at l : ℕ) (xs : Items) (q : Open) (b : ℕ) → used u Repeat.absent at l xs q b ≡ State.dead)
      → ((n : Number) (at l : ℕ) (xs : Items) (q : Open) (b : ℕ) → used u (Repeat.given n) at l xs q b ≡ separated at l (join xs (Items.field k (field n) Items.none)) q b)
      → ((t : List ℕ) (n : Number) → First (Items.field k (field n) Items.none) (times k) (met_of t (w (value_of n))) Items.none)
      → ((v start n : ℕ) → w v ≡ word.Literal start n → ⊥) → ((v : ℕ) → reach (w v) ≡ 0) → ((v : ℕ) → detail_of (w v) ≡ 0) → ((n : Number) → field_numbers (field n) ≡ range_w n ∷ []) → Ends u k w 64
  unfolding numbers
  ends_field needed enough first other none detail ranges =
      record {
        item = λ n. Items.field k (field n) Items.none;
        needed = needed;
        enough = enough;
        first = first;
        no_literal = other;
        no_characters = none;
        no_detail = detail;
        numbers_are = λ n. rw (ranges n) (append-nil (repeat_numbers k ++ range_w n ∷ []));
      }

pub ends-I : (k : Repeat) → Ends (Use.width_i k) k word.I 64
ends-I k = ends_field Field.I (λ at l xs q b. refl) (λ n at l xs q b. refl) (λ t n. First.field) (λ v start n e. cc) (λ v. refl) (λ v. refl) (λ n. refl)

pub ends-L : (k : Repeat) → Ends (Use.width_l k) k word.L 64
ends-L k = ends_field Field.L (λ at l xs q b. refl) (λ n at l xs q b. refl) (λ t n. First.field) (λ v start n e. cc) (λ v. refl) (λ v. refl) (λ n. refl)

pub ends-T : Ends Use.column Repeat.absent word.T 255
unfolding numbers
ends-T =
    record {
      item = λ n. Items.T n Items.none;
      needed = λ at l xs q b. refl;
      enough = λ n at l xs q b. refl;
      first = λ t n. First.T;
      no_literal = λ v start n e. cc;
      no_characters = λ v. refl;
      no_detail = λ v. refl;
      numbers_are = λ n. refl;
    }

-- ---- S: another letter, or nothing

module _ {s : List ℕ} {at : ℕ} (o : Option ℕ) where
  -- such an item, up to `next`
  setting_read : (k : SettingItem) {next : ℕ} → ((l : ℕ) (xs : Items) (q : Open) → read_at s at (State.within Mode.letter l xs q) ≡ read_at s next (State.within Mode.after l (join xs (Items.setting k Items.none)) q))
      → at ≤ next → next ≤ length s → ItemRead s at Mode.letter [] at o (word.Setting k) 1 next o
  unfolding numbers
  setting_read k runs low high =
      record {
        item = Items.setting k Items.none;
        late = [];
        first = λ t. First.setting;
        runs = runs;
        no_literal = λ start n e. cc;
        no_characters = refl;
        small = omega arith;
        few = λ a. omega arith;
        numbers_are = refl;
        outside_is = sym (outside_none o);
        more = low;
        high = high;
      }

  -- one more letter
  module _ (h : at < length s) where
    setting_more : (k : SettingItem) → ((l : ℕ) (xs : Items) (q : Open) → lettered at l xs q (get_or s at 0) ≡ State.within Mode.after l (join xs (Items.setting k Items.none)) q)
        → ItemRead s at Mode.letter [] at o (word.Setting k) 1 (at + 1) o
    unfolding step step_within
    setting_more k g = setting_read k (λ l xs q. read_step s at (State.within Mode.letter l xs q) _ h (g l xs q) (λ a b. refl)) (omega arith) (omega arith)

    pub SP-read : get_or s at 0 ≡ letter_p → ItemRead s at Mode.letter [] at o (word.Setting SP) 1 (at + 1) o
    SP-read e = setting_more SP (λ l xs q. rw e)

    pub SS-read : get_or s at 0 ≡ letter_s → ItemRead s at Mode.letter [] at o (word.Setting SS) 1 (at + 1) o
    SS-read e = setting_more SS (λ l xs q. rw e)

  -- neither
  pub S-alone : at ≤ length s → (at < length s → get_or s at 0 ≡ letter_p → ⊥) → (at < length s → get_or s at 0 ≡ letter_s → ⊥) → ItemRead s at Mode.letter [] at o (word.Setting S) 1 at o
  unfolding step step_within
  S-alone h p t =
      setting_read S
      (λ l xs q. read_same s at (State.within Mode.letter l xs q) (State.within Mode.after l (join xs (Items.setting S Items.none)) q) (λ z. simp (ne_eqb (get_or s at 0) letter_p (p z), ne_eqb (get_or s at 0) letter_s (t z))) refl)
      (omega arith) h

-- ---- A: a number or none

module _ {s : List ℕ} {at next : ℕ} (k : Repeat) (r : ℕ) (rep : times k ≡ r) (o : Option ℕ) where
  pub text_alone : NumberFound s at None next → ItemRead s at (Mode.digits (Use.width_a k) at 0) (repeat_numbers k) at o word.A r next o
  unfolding numbers
  text_alone f =
      record {
        item = Items.field k Field.A Items.none;
        late = [];
        first = λ t. subst (λ (m : ℕ). First (Items.field k Field.A Items.none) m (Met.field Field.A) Items.none) rep First.field;
        runs = number_ends f (Use.width_a k) (Items.field k Field.A Items.none) (λ l xs q b. refl);
        no_literal = λ start n e. cc;
        no_characters = refl;
        small = omega arith;
        few = repeat_few k rep;
        numbers_are = append-nil (repeat_numbers k ++ []);
        outside_is = sym (outside_none o);
        more = f.low;
        high = f.high;
      }

  pub text_wide : {v : ℕ} → NumberFound s at (Some v) next → (o' : Option ℕ) → o' ≡ keep_first o (range_w (number at v)) → ItemRead s at (Mode.digits (Use.width_a k) at 0) (repeat_numbers k) at o (word.Aw v) r next o'
  unfolding numbers
  text_wide {v} f o' out =
      let n = number at v in
      record {
        item = Items.field k (Field.Aw n) Items.none;
        late = range_w n ∷ [];
        first = λ t. subst (λ (m : ℕ). First (Items.field k (Field.Aw n) Items.none) m (Met.field (Field.Aw v)) Items.none) rep First.field;
        runs = number_ends f (Use.width_a k) (Items.field k (Field.Aw n) Items.none) (λ l xs q b. refl);
        no_literal = λ start n e. cc;
        no_characters = refl;
        small = omega arith;
        few = repeat_few k rep;
        numbers_are = append-nil (repeat_numbers k ++ range_w n ∷ []);
        outside_is = out ∙ sym (outside_one o (range_w n));
        more = f.low;
        high = f.high;
      }

-- ---- F: a number, a point, a number

pub decimal_missing : {s : List ℕ} {at point : ℕ} → NumberFound s at None point → (k : Repeat) → Stuck s at (Mode.digits (Use.width_f k) at 0) point
decimal_missing {s} {at} {point} f k = number_stuck f (Use.width_f k) (λ l xs q. pick_same (eqb (get_or s point 0) 46) State.dead)

module _ {s : List ℕ} {at w point : ℕ} (f : NumberFound s at (Some w) point) (k : Repeat) where
  pub decimal_no_point : (point < length s → get_or s point 0 ≡ 46 → ⊥) → Stuck s at (Mode.digits (Use.width_f k) at 0) point
  decimal_no_point d l xs q = f.runs (Use.width_f k) l xs q ∙ read_stuck s point _ (λ h. after f (Use.width_f k) l xs q h ∙ simp (ne_eqb (get_or s point 0) 46 (d h))) refl

  module _ (h : point < length s) (e : get_or s point 0 ≡ 46) where
    pub decimal_on : (l : ℕ) (xs : Items) (q : Open)
        → read_at s at (State.within (Mode.digits (Use.width_f k) at 0) l xs q) ≡ read_at s (point + 1) (State.within (Mode.digits (Use.places k (number at w)) (point + 1) 0) l xs q)
    decimal_on =
        number_on f (Use.width_f k) h (λ l xs q. State.within (Mode.digits (Use.places k (number at w)) (point + 1) 0) l xs q)
        (λ l xs q. simp (eq-eqb (get_or s point 0) 46 e)) (λ l xs q a b. refl)

    module _ {next : ℕ} where
      pub decimal_no_places : NumberFound s (point + 1) None next → Stuck s at (Mode.digits (Use.width_f k) at 0) next
      decimal_no_places g l xs q = decimal_on l xs q ∙ number_stuck g (Use.places k (number at w)) (λ l xs q. refl) l xs q

      pub decimal_read : {d : ℕ} → NumberFound s (point + 1) (Some d) next → (r : ℕ) → times k ≡ r → (o o₁ o₂ : Option ℕ) → o₁ ≡ keep_first o (range_w (number at w)) → o₂ ≡ keep_first o₁ (range_d (number (point + 1) d))
          → ItemRead s at (Mode.digits (Use.width_f k) at 0) (repeat_numbers k) at o (word.F w d) r next o₂
      unfolding numbers outside_after
      decimal_read {d} g r rep o o₁ o₂ x₁ x₂ =
          let m = number at w in
          let n = number (point + 1) d in
          let item = Items.field k (Field.F m n) Items.none in
          record {
            item = item;
            late = range_w m ∷ range_d n ∷ [];
            first = λ t. subst (λ (j : ℕ). First (Items.field k (Field.F m n) Items.none) j (Met.field (Field.F w d)) Items.none) rep First.field;
            runs = λ l xs q. decimal_on l xs q ∙ number_ends g (Use.places k m) (Items.field k (Field.F m n) Items.none) (λ l xs q b. refl) l xs q;
            no_literal = λ start n e. cc;
            no_characters = refl;
            small = omega (arith, g.small);
            few = repeat_few k rep;
            numbers_are = append-nil (repeat_numbers k ++ range_w m ∷ range_d n ∷ []);
            outside_is = x₂ ∙ ap (λ (z : Option ℕ). keep_first z (range_d n)) x₁;
            more = omega (arith, f.low, g.low);
            high = g.high;
          }
