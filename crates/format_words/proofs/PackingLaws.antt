-- A word packed from its parts.
-- Assumes nothing.
use Rattle.std.proofs.Common.{◌≡◌, refl, sym, ap, subst, ℕ, zero, suc, ◌+◌, ◌*◌, ◌<◌, ◌≤◌, arith, ◌/◌, ◌%◌}
use native.Mathlib.Decide.{dec_le}
use borrow.Author.Tests.{le-leb, lt-leb}
use Rattle.format_words.specs.declared.Word.{Word}
use Rattle.format_words.specs.declared.Word.TheVariants as word
use Rattle.format_words.specs.declared.packed.Packed.{Packed}
use Rattle.format_words.specs.Packing.{literal_kind, word_of, word_in, kind_in, detail_in, columns_in}

pub word_made : (kind d n : ℕ) {bits : ℕ} → bits ≡ n + 65536 * (d + 4096 * kind) → n < 65536 → d < 4096 → word_in (record { bits = bits }) ≡ word_of kind d n
unfolding word_in kind_in detail_in columns_in
word_made kind d n {bits} e m f =
    let a : bits / 65536 / 4096 ≡ kind = omega arith in
    let b : bits / 65536 % 4096 ≡ d = omega arith in
    let c : bits % 65536 ≡ n = omega arith in
    rw (a, b, c)

-- ---- the word of a kind

module _ (p : Packed) where
  pub word_is : {k : ℕ} → kind_in p ≡ k → word_in p ≡ word_of k (detail_in p) (columns_in p)
  unfolding word_in
  word_is e = ap (λ k. word_of k (detail_in p) (columns_in p)) e

  -- what its parts are, by the word: a field's columns, and the places of an F; where a literal starts, and its columns
  abbrev pub Parts : Word → Type 0
  Parts (word.I n) = (kind_in p < literal_kind) × (columns_in p ≡ n)
  Parts (word.F n d) = (kind_in p < literal_kind) × (columns_in p ≡ n) × (detail_in p ≡ d)
  Parts (word.L n) = (kind_in p < literal_kind) × (columns_in p ≡ n)
  Parts word.A = Unit
  Parts (word.Aw n) = (kind_in p < literal_kind) × (columns_in p ≡ n)
  Parts (word.X n) = Unit
  Parts (word.T n) = Unit
  Parts word.Slash = Unit
  Parts (word.Literal a n) = (literal_kind ≤ kind_in p) × (detail_in p ≡ a) × (columns_in p ≡ n)
  Parts (word.Setting k) = Unit

  pub word_parts : {w : Word} → word_in p ≡ w → Parts w
  unfolding word_in
  word_parts e = subst Parts e (elim (dec_le literal_kind (kind_in p)) [
    | yes h ↦ subst Parts (sym (word_literal h)) (h, refl, refl)
    | no h ↦ below (kind_in p) refl (omega arith)
  ])
    where
      word_literal : literal_kind ≤ kind_in p → word_in p ≡ word.Literal (detail_in p) (columns_in p)
      word_literal h = rw (le-leb literal_kind (kind_in p) h)

      at : (k : ℕ) → kind_in p ≡ k → Parts (word_of k (detail_in p) (columns_in p)) → Parts (word_in p)
      at k q h = subst Parts (sym (word_is q)) h

      below : (k : ℕ) → kind_in p ≡ k → k < literal_kind → Parts (word_in p)
      below zero q h = at zero q (omega (arith, q), refl)
      below (suc zero) q h = at 1 q (omega (arith, q), refl, refl)
      below (suc (suc zero)) q h = at 2 q (omega (arith, q), refl)
      below (suc (suc (suc zero))) q h = at 3 q (omega (arith, q), refl)
      below (suc (suc (suc (suc zero)))) q h = at 4 q tt
      below (suc (suc (suc (suc (suc zero))))) q h = at 5 q tt
      below (suc (suc (suc (suc (suc (suc zero)))))) q h = at 6 q tt
      below (suc (suc (suc (suc (suc (suc (suc zero))))))) q h = at 7 q tt
      below (suc (suc (suc (suc (suc (suc (suc (suc zero)))))))) q h = at 8 q tt
      below (suc (suc (suc (suc (suc (suc (suc (suc (suc zero))))))))) q h = at 9 q tt
      below (suc (suc (suc (suc (suc (suc (suc (suc (suc (suc k)))))))))) q h =
          subst Parts (sym (word_is q)) (rw (lt-leb literal_kind (suc (suc (suc (suc (suc (suc (suc (suc (suc (suc k)))))))))) h) tt)
