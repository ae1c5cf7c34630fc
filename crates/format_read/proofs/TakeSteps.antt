-- Items read, with their entries and characters: one item, and one after another.
-- Assumes nothing.
use mathlib.Core.Path.{◌≡◌, refl, sym, ap, ◌∙◌}
use mathlib.Core.Bool.{true, ◌||◌}
use mathlib.Core.List.{List, [], ◌∷◌, ◌++◌}
use Prim.Native.Nat.{ℕ, suc, ◌+◌, ◌-◌, ◌<◌, ◌≤◌}
use native.Mathlib.Omega.{arith}
use lib.Dec.{eqb}
use lib.ListN.{length, get_or, take, drop, set, length-drop}
use lib.Seq.{take-set-le, take-take, take-add, take-append-le, drop_at, drop-drop, length-take-le}
use Rattle.std.specs.Prelude.{Option}
use Rattle.std.proofs.lemmas.List.{drop-set, drop-take}
use Rattle.format_items.specs.Items.{Items}
use Rattle.format_items.specs.Ranges.{numbers}
use Rattle.format_grammar.specs.Reading.{Mode, Open, State, Reading, wanted, read_at}
use Rattle.format_grammar.proofs.Cases.{is_mark}
use Rattle.format_grammar.proofs.LiteralLaws.{step_open}
use Rattle.format_grammar.proofs.ReadLaws.{read_step}
use Rattle.format_words.specs.Words.{met_in}
use Rattle.format_words.specs.Packing.{word_in}
use Rattle.format_words.specs.declared.packed.Packed.{Packed}
use Rattle.format_words.specs.declared.Word.{Word}
use Rattle.format_words.specs.declared.Word.TheVariants as word
use Rattle.format_words.specs.declared.Entry.{Entry}
use Rattle.format_words.specs.declared.Entry.TheVariants as entry
use Rattle.format_words.specs.Held.{First, Holds}
use Rattle.format_words.proofs.HeldLaws.{slice_kept}
use Rattle.format_read.specs.Steps.{outside_after, ItemRead, LiteralFound, between, Took, Stuck}
use Rattle.format_read.specs.declared.Position.{Position}

-- ---- the entries from one on up to another

pub between_one : (a : List Entry) (n : ℕ) (x : Entry) → n < length a → between n (n + 1) (set a n x) ≡ x ∷ []
between_one a n x h = let one : n + 1 - n ≡ 1 = omega arith in rw one (ap (take 1) (drop-set a n x h))

-- the first of them was put there
pub between_put : (a : List Entry) (n m : ℕ) (x : Entry) → n < m → n < length a → between n m (set a n x) ≡ x ∷ between (n + 1) m a
between_put a n m x g h = let more : m - n ≡ suc (m - (n + 1)) = omega arith in rw more (ap (take (suc (m - (n + 1)))) (drop-set a n x h))

pub between_more : (a : List Entry) (n m k : ℕ) → n ≤ m → m ≤ k → between n k a ≡ between n m a ++ between m k a
between_more a n m k g h =
    let sum : k - n ≡ m - n + (k - m) = omega arith in
    let on : n + (m - n) ≡ m = omega arith in
    rw sum (take-add (m - n) (k - m) (drop n a) ∙ ap (λ z. between n m a ++ take (k - m) z) (drop-drop (m - n) n a ∙ ap (λ (i : ℕ). drop i a) on))

pub between_kept : (a b : List Entry) (n m k : ℕ) → n ≤ m → m ≤ k → take k b ≡ take k a → between n m b ≡ between n m a
between_kept a b n m k g h e = slice_kept n (m - n) k a b (omega arith) e

pub between_long : (a : List Entry) (n m : ℕ) → n ≤ m → m ≤ length a → length (between n m a) ≡ m - n
between_long a n m g h = length-take-le (m - n) (drop n a) (omega (arith, length-drop n a))

-- ---- positions in one text

pub within_text : (p p' : Position) → p'.text ≡ p.text → p'.at ≤ length p.text.now
within_text p p' e = rw e at p'.within

-- the same text, with these numbers
pub record Moved (p : Position) (at entries chars : ℕ) (outside : Option ℕ) (p' : Position) : Type 0 where
  pub same_text : p'.text ≡ p.text
  pub at_is : p'.at ≡ at
  pub entries_are : p'.entries ≡ entries
  pub chars_are : p'.chars ≡ chars
  pub outside_is : p'.outside ≡ outside

pub moved : {p p' : Position} → p'.text ≡ p.text → Moved p p'.at p'.entries p'.chars p'.outside p'
moved e = record { same_text = e; at_is = refl; entries_are = refl; chars_are = refl; outside_is = refl }

-- ---- an item that is neither a group nor a literal

pub took_single : {l : ℕ} {p p' : Position} {a b : List Entry} {x : Word} {r next : ℕ} {o : Option ℕ} → length p.text.now ≤ length a → ItemRead p.text.now p.at (wanted p.at) [] (p.at + 1) p.outside x r next o
    → (w : Packed) → word_in w ≡ x → Moved p next (p.entries + 1) p.chars o p' → b ≡ set a p.entries (entry.Item r w) → (t : List ℕ) → Took l (wanted p.at) (State.within Mode.after) p a t p' b t
took_single {l} {p} {p'} {a} {b} {x} {r} {next} {o} fit i w is m e t =
    let more : p.at < p'.at = omega (arith, m.at_is, i.more) in
    let first : First i.item r (met_in t w) Items.none = rw is (i.first t) in
    record {
      items = i.item;
      runs = λ xs q. rw m.at_is (i.runs l xs q);
      holds = rw (m.entries_are, e, between_one a p.entries (entry.Item r w) (omega (arith, p.few_entries, fit, i.more, i.high))) (Holds.item {w = w} first (rw is (omega (arith, i.no_characters))) Holds.none);
      entries_kept = ap (take p.entries) e ∙ take-set-le p.entries a p.entries (entry.Item r w) (omega arith);
      chars_kept = refl;
      outside_is = m.outside_is ∙ i.outside_is ∙ ap (outside_after p.outside) (sym i.numbers_are);
      same_text = m.same_text;
      more = more;
      more_entries = omega (arith, m.entries_are);
      more_chars = omega (arith, m.chars_are);
    }

-- ---- a literal

literal_begun : (s : List ℕ) (at m : ℕ) → at < length s → get_or s at 0 ≡ m → (eqb m 39 || eqb m 34) ≡ true → (l : ℕ) (xs : Items) (q : Open)
    → read_at s at (State.within (wanted at) l xs q) ≡ read_at s (at + 1) (State.within (Mode.inside m []) l xs q)
literal_begun s at m h e k l xs q = read_step s at _ _ h (rw e (step_open m at l xs q (is_mark m k))) (λ a b. refl)

-- the characters of a literal, among those that were there before
text_at : (t u : List ℕ) (c end : ℕ) (cs : List ℕ) → c ≤ length t → end ≡ c + length cs → take end u ≡ take c t ++ cs → take (end - c) (drop c u) ≡ cs
text_at t u c end cs h e f =
    let k : end - c ≡ length cs = omega arith in
    rw k (sym (drop-take c (length cs) u) ∙ ap (drop c) (ap (λ (n : ℕ). take n u) (sym e) ∙ f) ∙ drop_at (take c t) cs c (length-take-le c t h))

chars_before : (t u : List ℕ) (c end : ℕ) (cs : List ℕ) → c ≤ length t → end ≡ c + length cs → take end u ≡ take c t ++ cs → take c u ≡ take c t
chars_before t u c end cs h e f =
    sym (take-take c end u (omega arith)) ∙ ap (take c) f ∙ take-append-le c (take c t) cs (omega (arith, length-take-le c t h)) ∙ take-take c c t (omega arith)

module _ {p p' : Position} {a : List Entry} {t u : List ℕ} {m next end : ℕ} (fit : length p.text.now ≤ length a) (fits : length p.text.now ≤ length t) (f : LiteralFound p.text.now (p.at + 1) m t p.chars u next end)
    (h : p.at < length p.text.now) (e : get_or p.text.now p.at 0 ≡ m) (k : (eqb m 39 || eqb m 34) ≡ true) (n : Moved p next (p.entries + 1) end p.outside p') where
  pub took_literal : (l : ℕ) (b : List Entry) (w : Packed) → word_in w ≡ word.Literal p.chars (end - p.chars) → b ≡ set a p.entries (entry.Item 1 w) → Took l (wanted p.at) (State.within Mode.after) p a t p' b u
  unfolding numbers outside_after
  took_literal l b w is g =
      let c = p.chars in
      let small : c ≤ length t = omega (arith, p.few_chars) in
      let x = entry.Item 1 w in
      let first : First (Items.literal f.characters Items.none) 1 (met_in u w) Items.none = rw (is, text_at t u c end f.characters small f.end_is f.are) First.literal in
      record {
        items = Items.literal f.characters Items.none;
        runs = λ xs q. rw n.at_is (literal_begun p.text.now p.at m h e k l xs q ∙ f.runs l xs q);
        holds = rw (n.entries_are, n.chars_are, g, between_one a p.entries x (omega (arith, p.few_entries)))
            (Holds.item {w = w} first (rw is (omega (arith, f.end_is))) Holds.none);
        entries_kept = ap (take p.entries) g ∙ take-set-le p.entries a p.entries x (omega arith);
        chars_kept = chars_before t u c end f.characters small f.end_is f.are;
        outside_is = n.outside_is;
        same_text = n.same_text;
        more = omega (arith, n.at_is, f.more);
        more_entries = omega (arith, n.entries_are);
        more_chars = omega (arith, n.chars_are, f.end_is);
      }

-- a literal that goes wrong
pub literal_wrong : (s : List ℕ) (at m x : ℕ) → at < length s → get_or s at 0 ≡ m → (eqb m 39 || eqb m 34) ≡ true → Stuck s (at + 1) (Mode.inside m []) x
    → (l : ℕ) (xs : Items) (q : Open) → read_at s at (State.within (wanted at) l xs q) ≡ Reading.wrong x
literal_wrong s at m x h e k st l xs q = literal_begun s at m h e k l xs q ∙ st l xs q
