-- The characters of a literal, one after another.
-- Assumes nothing.
use mathlib.Core.Path.{◌≡◌, refl, sym, ◌∙◌}
use mathlib.Core.Bool.{true, false}
use mathlib.Core.List.{List, [], ◌∷◌, ◌++◌, append_assoc}
use Prim.Native.Nat.{ℕ, ◌+◌, ◌<◌, ◌≤◌}
use native.Mathlib.Numerals.{add-one}
use native.Mathlib.Omega.{arith}
use borrow.Author.Tests.{eq-eqb, ne_eqb}
use lib.ListN.{length, get_or, take, set, length-append, length-set}
use lib.Seq.{take-suc-set}
use Rattle.buffer.specs.Characters.{is_printable}
use Rattle.format_items.specs.Items.{Items, join}
use Rattle.format_grammar.specs.Reading.{Mode, Open, State, step, step_within, is_empty, read_at}
use Rattle.format_grammar.proofs.ReadLaws.{read_step, read_dead, read_end, read_same}
use Rattle.format_read.specs.Steps.{Stuck, LiteralFound}

-- the characters between `at` and p stand in u from c up to n
pub record LiteralSoFar (s : List ℕ) (at m : ℕ) (t : List ℕ) (c : ℕ) (u : List ℕ) (p n : ℕ) : Type 0 where
  pub characters : List ℕ
  pub runs : (l : ℕ) (xs : Items) (q : Open) → read_at s at (State.within (Mode.inside m []) l xs q) ≡ read_at s p (State.within (Mode.inside m characters) l xs q)
  pub are : take n u ≡ take c t ++ characters
  pub end_is : n ≡ c + length characters
  pub long : length u ≡ length t
  pub low : at ≤ p
  pub high : p ≤ length s
  pub fewer : n ≤ p

-- one character more
added : (t u : List ℕ) (c n b : ℕ) (cs : List ℕ) → n < length u → take n u ≡ take c t ++ cs → take (n + 1) (set u n b) ≡ take c t ++ (cs ++ b ∷ [])
added t u c n b cs h e = rw (add-one n, take-suc-set u n b h, e) (append_assoc (take c t) cs (b ∷ []))

module _ {s : List ℕ} {at m : ℕ} {t : List ℕ} {c : ℕ} {u : List ℕ} {p n : ℕ} (f : LiteralSoFar s at m t c u p n) where
  count_more : (b k : ℕ) → n + 1 ≡ c + length (f.characters ++ b ∷ [])
  count_more b k = omega (arith, f.end_is, length-append f.characters (b ∷ []))

  module _ (h : p < length s) where
    pub literal_plain : (get_or s p 0 ≡ m → ⊥) → is_printable (get_or s p 0) ≡ true → n < length u → LiteralSoFar s at m t c (set u n (get_or s p 0)) (p + 1) (n + 1)
    unfolding step step_within
    literal_plain d printed r =
        let b = get_or s p 0 in
        record {
          characters = f.characters ++ b ∷ [];
          runs = λ l xs q. f.runs l xs q ∙ read_step s p _ (State.within (Mode.inside m (f.characters ++ b ∷ [])) l xs q) h (simp (ne_eqb b m d, printed)) (λ x y. refl);
          are = added t u c n b f.characters r f.are;
          end_is = count_more b 0;
          long = length-set u n b ∙ f.long;
          low = omega (arith, f.low);
          high = omega arith;
          fewer = omega (arith, f.fewer);
        }

    pub literal_odd : (get_or s p 0 ≡ m → ⊥) → is_printable (get_or s p 0) ≡ false → Stuck s at (Mode.inside m []) p
    unfolding step step_within
    literal_odd d odd l xs q = f.runs l xs q ∙ read_dead s p (State.within (Mode.inside m f.characters) l xs q) h (simp (ne_eqb (get_or s p 0) m d, odd))

    -- a mark
    module _ (e : get_or s p 0 ≡ m) where
      marked : (l : ℕ) (xs : Items) (q : Open) → read_at s at (State.within (Mode.inside m []) l xs q) ≡ read_at s (p + 1) (State.within (Mode.mark m f.characters) l xs q)
      unfolding step step_within
      marked l xs q = f.runs l xs q ∙ read_step s p _ (State.within (Mode.mark m f.characters) l xs q) h (simp (eq-eqb (get_or s p 0) m e)) (λ x y. refl)

      pub literal_cut : length s ≤ p + 1 → Stuck s at (Mode.inside m []) (p + 1)
      literal_cut g l xs q = marked l xs q ∙ read_end s (p + 1) _ g

      module _ (g : p + 1 < length s) where
        pub literal_double : get_or s (p + 1) 0 ≡ m → n < length u → LiteralSoFar s at m t c (set u n (get_or s p 0)) (p + 2) (n + 1)
        unfolding step step_within
        literal_double i r =
            let b = get_or s p 0 in
            let same : get_or s (p + 1) 0 ≡ b = i ∙ sym e in
            let two : p + 1 + 1 ≡ p + 2 = omega arith in
            record {
              characters = f.characters ++ b ∷ [];
              runs = λ l xs q. marked l xs q ∙ rw (← two) (read_step s (p + 1) _ (State.within (Mode.inside m (f.characters ++ b ∷ [])) l xs q) g (rw same (simp (eq-eqb b m e))) (λ x y. refl));
              are = added t u c n b f.characters r f.are;
              end_is = count_more b 0;
              long = length-set u n b ∙ f.long;
              low = omega (arith, f.low);
              high = omega arith;
              fewer = omega (arith, f.fewer);
            }

        module _ (d : get_or s (p + 1) 0 ≡ m → ⊥) where
          empty : (cs : List ℕ) → n ≡ c + length cs → n ≡ c → is_empty cs ≡ true
          empty [] x z = refl
          empty (y ∷ ys) x z = absurd (omega arith)

          full : (cs : List ℕ) → n ≡ c + length cs → (n ≡ c → ⊥) → is_empty cs ≡ false
          full [] x z = absurd (z (omega arith))
          full (y ∷ ys) x z = refl

          pub literal_empty : n ≡ c → Stuck s at (Mode.inside m []) (p + 1)
          unfolding step step_within
          literal_empty z l xs q =
              marked l xs q ∙ read_dead s (p + 1) (State.within (Mode.mark m f.characters) l xs q) g (simp (ne_eqb (get_or s (p + 1) 0) m d, empty f.characters f.end_is z))

          pub literal_all : (n ≡ c → ⊥) → LiteralFound s at m t c u (p + 1) n
          unfolding step step_within
          literal_all z =
              record {
                characters = f.characters;
                runs = λ l xs q. marked l xs q ∙ read_same s (p + 1) (State.within (Mode.mark m f.characters) l xs q) (State.within Mode.after l (join xs (Items.literal f.characters Items.none)) q)
                    (λ _. simp (ne_eqb (get_or s (p + 1) 0) m d, full f.characters f.end_is z)) refl;
                are = f.are;
                end_is = f.end_is;
                more = omega (arith, f.low);
                room = omega (arith, f.fewer);
                high = omega arith;
              }

  pub literal_open : length s ≤ p → Stuck s at (Mode.inside m []) p
  literal_open h l xs q = f.runs l xs q ∙ read_end s p _ h
