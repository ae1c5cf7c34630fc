-- Groups, and items one after another in brackets.
-- Assumes nothing.
use mathlib.Core.Path.{◌≡◌, refl, sym, ap, ◌∙◌, subst}
use mathlib.Core.List.{List, ◌∷◌, ◌++◌, append-nil}
use Prim.Native.Nat.{ℕ, ◌+◌, ◌-◌, ◌<◌, ◌≤◌}
use native.Mathlib.Omega.{arith}
use borrow.Author.Tests.{ne_eqb}
use lib.ListN.{length, get_or, take, set}
use lib.Seq.{take-set-le, take-take}
use Rattle.std.specs.Prelude.{Option}
use Rattle.format_items.specs.Items.{Items, join}
use Rattle.format_items.specs.Ranges.{repeat_numbers, numbers}
use Rattle.format_grammar.specs.Reading.{Mode, Open, State, step, step_within, wanted, close, read_at}
use Rattle.format_items.proofs.ItemLaws.{join_assoc, join_right, numbers_join}
use Rattle.format_grammar.proofs.ReadLaws.{read_step, read_stuck, close_live}
use Rattle.format_words.specs.declared.Entry.{Entry}
use Rattle.format_words.specs.declared.Entry.TheVariants as entry
use Rattle.format_words.specs.Held.{Holds}
use Rattle.format_words.proofs.HeldLaws.{holds_join, holds_kept}
use Rattle.format_read.specs.Steps.{outside_after, NoItem, between, Took, Opened}
use Rattle.format_read.specs.declared.Position.{Position}
use Rattle.format_read.proofs.SingleSteps.{outside_append, outside_none}
use Rattle.format_read.proofs.TakeSteps.{between_put, between_more, between_kept, between_long, within_text, Moved}

-- ---- a group

module _ {l r : ℕ} {p inside p' : Position} {a b d : List Entry} {t u v : List ℕ} (fit : length p.text.now ≤ length a) (o : Opened l p inside r a t b u)
    (k : Took (l - 1) (wanted inside.at) close inside b u p' d v) (long : length d ≡ length a) where
  same : p'.text ≡ p.text
  same = k.same_text ∙ o.same_text

  -- its entry, which comes before those of its items
  pub group_fits : (p.entries < length d) × (p'.entries ≤ length d) × (r < 1000)
  group_fits = (omega (arith, k.more_entries, o.entries_are, p'.few_entries, within_text p p' same, fit), omega (arith, p'.few_entries, within_text p p' same, fit), o.few)

  pub took_group : (e : List Entry) → e ≡ set d p.entries (entry.Group (p'.entries - p.entries - 1) r) → Took l (wanted p.at) (State.within Mode.after) p a t p' e v
  unfolding join numbers
  took_group e g =
      let n = p.entries in
      let m = p'.entries in
      let w = entry.Group (m - n - 1) r in
      let back : l - 1 + 1 ≡ l = omega (arith, o.deep) in
      let one = between (n + 1) m d in
      let inner : Holds v p'.chars (l - 1) one k.items = subst (λ (j : ℕ). Holds v p'.chars (l - 1) (between j m d) k.items) o.entries_are k.holds in
      let long_one : length one ≡ m - (n + 1) = between_long d (n + 1) m (omega (arith, k.more_entries, o.entries_are)) group_fits.1 in
      let many : m - n - 1 ≡ length one = omega arith in
      let whole : Holds v p'.chars (l - 1 + 1) (w ∷ one) (Items.group o.k k.items Items.none) = Holds.group many (sym o.repeats) (sym (append-nil one)) inner Holds.none in
      let rest : (xs : Items) (q : Open) → read_at p.text.now inside.at (State.within (wanted inside.at) (l - 1) Items.none (Open.group xs o.k q)) ≡ read_at p.text.now p'.at (close (l - 1) (join Items.none k.items) (Open.group xs o.k q)) = λ xs q. rw o.same_text at (k.runs Items.none (Open.group xs o.k q)) in
      record {
        items = Items.group o.k k.items Items.none;
        runs = λ xs q. o.runs xs q ∙ rest xs q ∙ ap (λ (j : ℕ). read_at p.text.now p'.at (State.within Mode.after j (join xs (Items.group o.k k.items Items.none)) q)) back;
        holds = rw (g, between_put d n m w (omega (arith, k.more_entries, o.entries_are)) group_fits.0) (subst (λ (j : ℕ). Holds v p'.chars j (w ∷ one) (Items.group o.k k.items Items.none)) back whole);
        entries_kept = ap (take n) g ∙ take-set-le n d n w (omega arith) ∙ sym (take-take n (n + 1) d (omega arith))
            ∙ ap (take n) (subst (λ (j : ℕ). take j d ≡ take j b) o.entries_are k.entries_kept ∙ ap (take (n + 1)) o.same_entries) ∙ take-take n (n + 1) a (omega arith);
        chars_kept = subst (λ (j : ℕ). take j v ≡ take j u) o.chars_are k.chars_kept ∙ ap (take p.chars) o.same_chars;
        outside_is = k.outside_is ∙ ap (λ (z : Option ℕ). outside_after z (numbers k.items)) o.outside_is ∙ sym (outside_append p.outside (repeat_numbers o.k) (numbers k.items))
            ∙ ap (outside_after p.outside) (sym (append-nil (repeat_numbers o.k ++ numbers k.items)));
        same_text = same;
        more = omega (arith, o.more, k.more);
        more_entries = omega (arith, k.more_entries, o.entries_are);
        more_chars = omega (arith, k.more_chars, o.chars_are);
      }

-- ---- items after one another

-- from the first position on, items and a comma after each were read up to p
pub record SoFar (l : ℕ) (start : Position) (a : List Entry) (t : List ℕ) (p : Position) (b : List Entry) (u : List ℕ) : Type 0 where
  pub items : Items
  pub runs : (xs : Items) (q : Open) → read_at start.text.now start.at (State.within (wanted start.at) l xs q) ≡ read_at start.text.now p.at (State.within (wanted p.at) l (join xs items) q)
  pub holds : Holds u p.chars l (between start.entries p.entries b) items
  pub entries_kept : take start.entries b ≡ take start.entries a
  pub chars_kept : take start.chars u ≡ take start.chars t
  pub outside_is : p.outside ≡ outside_after start.outside (numbers items)
  pub same_text : p.text ≡ start.text
  pub more : start.at ≤ p.at
  pub more_entries : start.entries ≤ p.entries
  pub more_chars : start.chars ≤ p.chars

pub so_far_none : {l : ℕ} {start : Position} {a : List Entry} {t : List ℕ} → SoFar l start a t start a t
unfolding numbers
so_far_none {l} {start} {a} {t} =
    record {
      items = Items.none;
      runs = λ xs q. ap (λ (x : Items). read_at start.text.now start.at (State.within (wanted start.at) l x q)) (sym (join_right xs));
      holds = let none : start.entries - start.entries ≡ 0 = omega arith in rw none Holds.none;
      entries_kept = refl;
      chars_kept = refl;
      outside_is = sym (outside_none start.outside);
      same_text = refl;
      more = omega arith;
      more_entries = omega arith;
      more_chars = omega arith;
    }

module _ {l : ℕ} {start p p' : Position} {a b d : List Entry} {t u v : List ℕ} (f : SoFar l start a t p b u) (k : Took l (wanted p.at) (State.within Mode.after) p b u p' d v) where
  both : Items
  both = join f.items k.items

  same_both : p'.text ≡ start.text
  same_both = k.same_text ∙ f.same_text

  read_one : (xs : Items) (q : Open) → read_at start.text.now p.at (State.within (wanted p.at) l xs q) ≡ read_at start.text.now p'.at (State.within Mode.after l (join xs k.items) q)
  read_one xs q = rw f.same_text at (k.runs xs q)

  read_both : (xs : Items) (q : Open) → read_at start.text.now start.at (State.within (wanted start.at) l xs q) ≡ read_at start.text.now p'.at (State.within Mode.after l (join xs both) q)
  unfolding both
  read_both xs q = f.runs xs q ∙ read_one (join xs f.items) q ∙ ap (λ (x : Items). read_at start.text.now p'.at (State.within Mode.after l x q)) (join_assoc xs f.items k.items)

  byte_is : (n : ℕ) → get_or p'.text.now p'.at 0 ≡ n → get_or start.text.now p'.at 0 ≡ n
  byte_is n e = rw same_both at e

  byte_is_not : (n : ℕ) → (p'.at < length p'.text.now → get_or p'.text.now p'.at 0 ≡ n → ⊥) → p'.at < length start.text.now → get_or start.text.now p'.at 0 ≡ n → ⊥
  byte_is_not n other = rw same_both at other

  pub so_far_other : (p'.at < length p'.text.now → get_or p'.text.now p'.at 0 ≡ 41 → ⊥) → (p'.at < length p'.text.now → get_or p'.text.now p'.at 0 ≡ 44 → ⊥) → NoItem start.text.now l start.at p'.at
  unfolding step step_within
  so_far_other c e xs q =
      read_both xs q ∙ read_stuck start.text.now p'.at (State.within Mode.after l (join xs both) q)
      (λ h. simp (ne_eqb (get_or start.text.now p'.at 0) 44 (byte_is_not 44 e h), ne_eqb (get_or start.text.now p'.at 0) 41 (byte_is_not 41 c h))) refl

  held_both : Holds v p'.chars l (between start.entries p'.entries d) both
  unfolding both
  held_both =
      rw (between_more d start.entries p.entries p'.entries f.more_entries k.more_entries, between_kept b d start.entries p.entries p.entries f.more_entries (omega arith) k.entries_kept)
      (holds_join (holds_kept f.holds k.chars_kept k.more_chars) k.holds)

  kept_entries : take start.entries d ≡ take start.entries a
  kept_entries = sym (take-take start.entries p.entries d f.more_entries) ∙ ap (take start.entries) k.entries_kept ∙ take-take start.entries p.entries b f.more_entries ∙ f.entries_kept

  kept_chars : take start.chars v ≡ take start.chars t
  kept_chars = sym (take-take start.chars p.chars v f.more_chars) ∙ ap (take start.chars) k.chars_kept ∙ take-take start.chars p.chars u f.more_chars ∙ f.chars_kept

  outside_both : p'.outside ≡ outside_after start.outside (numbers both)
  unfolding both
  outside_both =
      k.outside_is ∙ ap (λ (z : Option ℕ). outside_after z (numbers k.items)) f.outside_is ∙ sym (outside_append start.outside (numbers f.items) (numbers k.items))
      ∙ ap (outside_after start.outside) (sym (numbers_join f.items k.items))

  module _ {p₁ : Position} (m : Moved p' (p'.at + 1) p'.entries p'.chars p'.outside p₁) (h : p'.at < length p'.text.now) where
    within : p'.at < length start.text.now
    within = rw same_both at h

    -- from the start up to the byte that moves the position on, whatever state that byte leads to
    both_taken : (to : ℕ → Items → Open → State)
        → ((xs : Items) (q : Open) → read_at start.text.now p'.at (State.within Mode.after l (join xs both) q) ≡ read_at start.text.now (p'.at + 1) (to l (join xs both) q)) → Took l (wanted start.at) to start a t p₁ d v
    both_taken to r =
        record {
          items = both;
          runs = λ xs q. rw m.at_is (read_both xs q ∙ r xs q);
          holds = rw (m.entries_are, m.chars_are) held_both;
          entries_kept = kept_entries;
          chars_kept = kept_chars;
          outside_is = m.outside_is ∙ outside_both;
          same_text = m.same_text ∙ same_both;
          more = omega (arith, f.more, k.more, m.at_is);
          more_entries = omega (arith, f.more_entries, k.more_entries, m.entries_are);
          more_chars = omega (arith, f.more_chars, k.more_chars, m.chars_are);
        }

    pub so_far_closed : get_or p'.text.now p'.at 0 ≡ 41 → Took l (wanted start.at) close start a t p₁ d v
    unfolding step step_within
    so_far_closed c = both_taken close (λ xs q. read_step start.text.now p'.at _ (close l (join xs both) q) within (rw (byte_is 41 c)) (close_live l (join xs both) q))

    pub so_far_more : get_or p'.text.now p'.at 0 ≡ 44 → SoFar l start a t p₁ d v
    unfolding step step_within
    so_far_more c =
        let n = both_taken (State.within (wanted (p'.at + 1)))
        (λ xs q. read_step start.text.now p'.at _ (State.within (wanted (p'.at + 1)) l (join xs both) q) within (rw (byte_is 44 c)) (λ x y. refl)) in
        record {
          items = n.items;
          runs = λ xs q.
              subst (λ (j : ℕ). read_at start.text.now start.at (State.within (wanted start.at) l xs q) ≡ read_at start.text.now p₁.at (State.within (wanted j) l (join xs n.items) q)) (sym m.at_is) (n.runs xs q);
          holds = n.holds;
          entries_kept = n.entries_kept;
          chars_kept = n.chars_kept;
          outside_is = n.outside_is;
          same_text = n.same_text;
          more = omega (arith, n.more);
          more_entries = n.more_entries;
          more_chars = n.more_chars;
        }
