-- The words of a run as the items that they stand for.
-- Assumes nothing.
use Rattle.std.proofs.Common.{◌≡◌, refl, sym, ap, ◌∙◌, ◌⊎◌, inl, inr, List, [], ◌∷◌, map, ℕ, ◌<◌, ◌≤◌, arith, length, drop}
use Rattle.std.specs.Borrow.{Bor}
use Rattle.std.specs.Slice.{IsGetRangeResult}
use Rattle.std.proofs.lemmas.List.{take_rest}
use lib.ListN.{drop_of_length-le}
use Rattle.std.specs.Prelude.{◌||◌, Option, None, Some, unwrap_or}
use Rattle.std.specs.List.{list_any, drop-map}
use Rattle.format_words.specs.Words.{met_of, met_in}
use Rattle.format_words.specs.Packing.{word_in}
use Rattle.format_words.specs.declared.packed.Packed.{Packed}
use Rattle.format_words.specs.declared.Word.{Word}
use Rattle.format_words.specs.declared.Word.TheVariants as word
use Rattle.sheet_walk.specs.Steps.{is_field, has_field}
use Rattle.sheet_walk.specs.Given.{word_is_field}

field_is : (t : List ℕ) (w : Word) → is_field (met_of t w) ≡ word_is_field w
field_is t (word.I n) = refl
field_is t (word.F n d) = refl
field_is t (word.L n) = refl
field_is t word.A = refl
field_is t (word.Aw n) = refl
field_is t (word.X n) = refl
field_is t (word.T n) = refl
field_is t word.Slash = refl
field_is t (word.Literal a n) = refl
field_is t (word.Setting k) = refl

fields_are : (t : List ℕ) (ws : List Packed) → list_any (λ p. word_is_field (word_in p)) ws ≡ has_field (map (met_in t) ws)
unfolding has_field
fields_are t [] = refl
fields_are t (w ∷ ws) = rw (field_is t (word_in w)) (ap (λ b. word_is_field (word_in w) || b) (fields_are t ws))

-- of the words from an index on
pub part_field : (t : List ℕ) (ws : List Packed) (i : ℕ) → list_any (λ p. word_is_field (word_in p)) (drop i ws) ≡ has_field (drop i (map (met_in t) ws))
part_field t ws i = fields_are t (drop i ws) ∙ ap has_field (sym (drop-map (met_in t) i ws))

-- the words from an index on, which may lie past the last one, as the code takes them
pub words_from : {X : Type 0} (ws : List X) (i : ℕ) (o : Option (Bor (List X))) → IsGetRangeResult ws i (length ws) o → (rest : Bor (List X)) → rest.now ≡ []
    → (unwrap_or o rest).now ≡ drop i ws
words_from ws i None p rest e = e ∙ sym (drop_of_length-le ws (none p.0))
  where
    none : (length ws < i) ⊎ (length ws < length ws) → length ws ≤ i
    none (inl h) = omega arith
    none (inr h) = omega arith
words_from ws i (Some part) p rest e = p.0.2 ∙ take_rest ws i
