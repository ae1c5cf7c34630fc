-- The columns that a part of the walk begins with, one by one, as the code takes them.
-- Assumes nothing.
use Rattle.std.proofs.Common.{◌≡◌, refl, subst, ◌∙◌, true, false, List, ℕ, ◌+◌, ◌<◌, ◌≤◌, length, take, drop, get_or, arith}
use borrow.Author.Tests.{leb-true, leb-false}
use lib.Dec.{leb}
use lib.ListN.{drop_of_length-le}
use lib.Seq.{drop-cons}
use native.Mathlib.Numerals.{add-one}
use Rattle.format_items.specs.Items.{Field}
use Rattle.format_items.specs.Met.{Met}
use Rattle.format_items.specs.MetRanges.{MetWithin}
use Rattle.list_elements.specs.Elements.{Kind}
use Rattle.settings.specs.Settings.{start_settings}
use Rattle.sheet_walk.specs.declared.Cover.{Cover}
use Rattle.sheet_walk.specs.Steps.{What, element, literal}
use Rattle.sheet_walk.specs.Walk.{Sheet, Trace}
use Rattle.sheet_walk.specs.Promises.{Suited}
use Rattle.format_words.specs.Packing.{literal_kind, kind_in, detail_in, columns_in}
use Rattle.format_words.specs.declared.packed.Packed.{Packed}
use Rattle.sheet_walk.specs.Given.{PlacesAre, Keeps, takes}
use Rattle.sheet_walk.specs.Followed.{Begins}
use Rattle.sheet_walk.proofs.Parts.{First, begins_first, begins_none}

-- what an array of them holds before it is filled
abbrev pub zero_cover : Cover
zero_cover = record { at = 0; word = record { bits = 0 }; settings = start_settings }

-- the k-th columns
abbrev pub cover_at : List Cover → ℕ → Cover
cover_at covers k = get_or covers k zero_cover

module _ {h : Sheet} {t : List ℕ} (covers : List Cover) (k : ℕ) {i j : ℕ} {now left : Trace} (b : Begins h t i (drop k covers) now j left) where
  -- at columns of the part
  pub begins_at : k < length covers → First h t i (cover_at covers k) (drop (k + 1) covers) now j left
  begins_at l = begins_first (subst (λ cs. Begins h t i cs now j left) (drop-cons covers k zero_cover l ∙ rw (← add-one k) refl) b)

  -- and after the last
  pub begins_end : length covers ≤ k → (now ≡ left) × (i ≡ j)
  begins_end l = begins_none (subst (λ cs. Begins h t i cs now j left) (drop_of_length-le covers l) b)

-- ---- what covers them

-- a field of the element that is next
pub record FieldAt (kinds : List Kind) (next w : ℕ) (k : Packed) (what : What) : Type 0 where
  pub f : Field ℕ
  pub is : what ≡ element next f
  pub suited : Suited kinds next f w
  pub within : MetWithin (Met.field f)
  pub places : PlacesAre (detail_in k) f

module _ (t : List ℕ) (kinds : List Kind) (next w : ℕ) (k : Packed) where
  pub as_field : (what : What) → leb literal_kind (kind_in k) ≡ false → Keeps t kinds next w k what → FieldAt kinds next w k what
  as_field (element i f) e h = record { f = f; is = rw h.0 refl; suited = rw h.0 at h.1; within = h.2; places = h.3.places }
  as_field (literal cs) e h = absurd (omega (arith, leb-false literal_kind (kind_in k) e, h.is_literal))

  -- a literal
  pub record LiteralAt (what : What) : Type 0 where
    pub inside : detail_in k + columns_in k ≤ length t
    pub is : what ≡ literal (take (columns_in k) (drop (detail_in k) t))

  pub as_literal : (what : What) → leb literal_kind (kind_in k) ≡ true → Keeps t kinds next w k what → LiteralAt what
  as_literal (element i f) e h = absurd (omega (arith, leb-true literal_kind (kind_in k) e, h.3.no_literal))
  as_literal (literal cs) e h = record { inside = h.inside; is = rw (← h.are) refl }

-- how many elements they take
pub takes_one : (k : Packed) → leb literal_kind (kind_in k) ≡ false → takes k ≡ 1
takes_one k e = rw e refl

pub takes_none : (k : Packed) → leb literal_kind (kind_in k) ≡ true → takes k ≡ 0
takes_none k e = rw e refl
