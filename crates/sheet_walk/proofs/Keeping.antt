-- What covers columns, kept by its word.
-- Assumes nothing.
use Rattle.std.proofs.Common.{◌≡◌, refl, sym, ap, ◌∙◌, true, List, ℕ, ◌+◌, ◌≤◌, length, take, drop, arith}
use borrow.Author.Tests.{le-leb, lt-leb}
use lib.Seq.{length-take-le}
use lib.ListN.{length-drop}
use Rattle.format_items.specs.Items.{Field}
use Rattle.format_items.specs.Met.{Met}
use Rattle.format_items.specs.MetRanges.{MetWithin}
use Rattle.format_words.specs.Words.{met_of, met_in}
use Rattle.format_words.specs.Packing.{literal_kind, word_in, kind_in, detail_in, columns_in}
use Rattle.format_words.specs.declared.Word.{Word}
use Rattle.format_words.specs.declared.Word.TheVariants as word
use Rattle.format_words.specs.declared.packed.Packed.{Packed}
use Rattle.format_words.proofs.PackingLaws.{word_is, word_parts}
use Rattle.list_elements.specs.Elements.{Kind, integer, decimal, logical, text}
use Rattle.sheet_walk.specs.Steps.{What, element, literal, suits, field_width}
use Rattle.sheet_walk.specs.Given.{kind_number, KeepsField, KeepsLiteral, Keeps, takes}
use Rattle.sheet_walk.specs.declared.State.{State}
use Rattle.sheet_walk.proofs.StepLaws.{CoveredBy}

-- ---- the word of a field whose kind is that of an element

-- the field f of the word k, which suits an element of this kind, and how the word keeps it
pub record FieldOfKind (t : List ℕ) (k : Packed) (kind : Kind) : Type 0 where
  pub f : Field ℕ
  pub is : met_in t k ≡ Met.field f
  pub suited : suits f kind ≡ true
  pub keeps : KeepsField k (field_width f kind) f

pub field_of_kind : (t : List ℕ) (k : Packed) (kind : Kind) → kind_in k ≡ kind_number kind → FieldOfKind t k kind
field_of_kind t k integer e = record { f = Field.I (columns_in k); is = ap (met_of t) (word_is k e); suited = refl; keeps = record { no_literal = omega (arith, e); wide = refl; places = tt } }
field_of_kind t k decimal e = record { f = Field.F (columns_in k) (detail_in k); is = ap (met_of t) (word_is k e); suited = refl; keeps = record { no_literal = omega (arith, e); wide = refl; places = refl } }
field_of_kind t k logical e = record { f = Field.L (columns_in k); is = ap (met_of t) (word_is k e); suited = refl; keeps = record { no_literal = omega (arith, e); wide = refl; places = tt } }
field_of_kind t k (text m) e = record { f = Field.Aw (columns_in k); is = ap (met_of t) (word_is k e); suited = refl; keeps = record { no_literal = omega (arith, e); wide = refl; places = tt } }

-- ---- the word of a field

-- any but A keeps its own field
pub keeps_own : (t : List ℕ) (k : Packed) (f : Field ℕ) (kind : Kind) → met_in t k ≡ Met.field f → (word_in k ≡ word.A → ⊥) → KeepsField k (field_width f kind) f
keeps_own t k f kind e u = go (word_in k) refl
  where
    kept : {g : Field ℕ} {x : Word} → word_in k ≡ x → met_of t x ≡ Met.field g → KeepsField k (field_width g kind) g → KeepsField k (field_width f kind) f
    kept {g} q m h = let by = ap (met_of t) (sym q) ∙ e in let z : g ≡ f = cc in rw (← z) h

    go : (x : Word) → word_in k ≡ x → KeepsField k (field_width f kind) f
    go (word.I n) q = let p = word_parts k q in kept {g = Field.I n} q refl (record { no_literal = p.0; wide = p.1; places = tt })
    go (word.F n d) q = let p = word_parts k q in kept {g = Field.F n d} q refl (record { no_literal = p.0; wide = p.1; places = p.2 })
    go (word.L n) q = let p = word_parts k q in kept {g = Field.L n} q refl (record { no_literal = p.0; wide = p.1; places = tt })
    go word.A q = absurd (u q)
    go (word.Aw n) q = let p = word_parts k q in kept {g = Field.Aw n} q refl (record { no_literal = p.0; wide = p.1; places = tt })
    go (word.X n) q = let g = ap (met_of t) (sym q) ∙ e in let z : ⊥ = cc in absurd z
    go (word.T n) q = let g = ap (met_of t) (sym q) ∙ e in let z : ⊥ = cc in absurd z
    go word.Slash q = let g = ap (met_of t) (sym q) ∙ e in let z : ⊥ = cc in absurd z
    go (word.Literal a n) q = let g = ap (met_of t) (sym q) ∙ e in let z : ⊥ = cc in absurd z
    go (word.Setting s) q = let g = ap (met_of t) (sym q) ∙ e in let z : ⊥ = cc in absurd z

-- A alone is kept by a word of Aw
pub keeps_text : (t : List ℕ) (k m : Packed) (f : Field ℕ) {w : ℕ} → met_in t k ≡ Met.field f → word_in k ≡ word.A → word_in m ≡ word.Aw w → KeepsField m w f
keeps_text t k m f {w} e a b =
    let g = ap (met_of t) (sym a) ∙ e in
    let is_A : Field.A ≡ f = cc in
    let p = word_parts m b in
    rw (← is_A) (record { no_literal = p.0; wide = p.1; places = tt })

-- ---- a literal

pub keeps_literal : (t : List ℕ) (k : Packed) {a n : ℕ} → word_in k ≡ word.Literal a n → a + n ≤ length t → KeepsLiteral t k (take n (drop a t)) × (columns_in k ≡ length (take n (drop a t)))
keeps_literal t k {a} {n} e inside =
    let h = word_parts k e in
    let l : length (take n (drop a t)) ≡ n = length-take-le n (drop a t) (omega (arith, length-drop a t)) in
    (record { is_literal = h.0; inside = omega (arith, h.1, h.2); are = rw (h.1, h.2) refl }, h.2 ∙ sym l)

-- ---- at an item met

module _ (t : List ℕ) (kinds : List Kind) (s : State) (w : ℕ) (k : Packed) where
  pub field_kept : (f : Field ℕ) (what : What) → CoveredBy kinds (Met.field f) s w what → MetWithin (Met.field f) → KeepsField k w f → Keeps t kinds s.taken w k what
  field_kept f (element i g) by m h = let e = by.0 in let z : g ≡ f = cc in (by.1, by.2, rw z m, rw z h)
  field_kept f (literal cs) by m h = let e = by.0 in let z : ⊥ = cc in absurd z

  pub literal_kept : (cs : List ℕ) (what : What) → CoveredBy kinds (Met.literal cs) s w what → KeepsLiteral t k cs → Keeps t kinds s.taken w k what
  literal_kept cs (element i g) by h = let e = by.0 in let z : ⊥ = cc in absurd z
  literal_kept cs (literal ds) by h = let e = by.0 in let z : ds ≡ cs = cc in rw z h

-- how many elements it takes
pub field_takes : {k : Packed} {w : ℕ} {f : Field ℕ} → KeepsField k w f → takes k ≡ 1
field_takes {k} h = rw (lt-leb literal_kind (kind_in k) h.no_literal) refl

pub literal_takes : {t : List ℕ} {k : Packed} {cs : List ℕ} → KeepsLiteral t k cs → takes k ≡ 0
literal_takes {t} {k} h = rw (le-leb literal_kind (kind_in k) h.is_literal) refl
