-- What each item does: the elements it takes, and where the walk stands after it.
-- Assumes nothing.
use mathlib.Core.Path.{◌≡◌, refl}
use mathlib.Core.Bool.{Bool, true, false, cond}
use mathlib.Core.List.{List, [], ◌∷◌}
use Prim.Native.Nat.{ℕ, ◌+◌, ◌<◌, ◌≤◌}
use native.Mathlib.Omega.{arith}
use borrow.Author.Tests.{ltb-true, ltb-false, leb-true, leb-false}
use lib.Dec.{ltb, leb}
use lib.ListN.{length, drop, get_or, drop_of_length-le}
use lib.Seq.{drop-cons}
use Rattle.settings.specs.Settings.{set_by}
use Rattle.settings.specs.declared.Settings.{Settings}
use Rattle.format_items.specs.Items.{Field}
use Rattle.format_items.specs.Met.{Met}
use Rattle.format_items.specs.MetRanges.{MetWithin}
use Rattle.list_elements.specs.Elements.{Kind, integer}
use Rattle.sheet_walk.specs.declared.Refusal.TheVariants as refusal
use Rattle.sheet_walk.specs.declared.State.{State}
use Rattle.sheet_walk.specs.Given.{fields_of}
use Rattle.sheet_walk.specs.Followed.{fields_in}
use Rattle.sheet_walk.specs.Steps.{Records, What, element, literal, Placement, Step, moves, covers, refused, ends, to_column, to_next_record, suits, field_width, cover_step, field_step, next_record, step, has_field, end_step}
use Rattle.sheet_walk.specs.Promises.{ItemRefused, EndRefused, Suited}

-- by a test: the case where it holds, and the case where it does not
pub by_test : {A : Type 0} (P : A → Type 0) (b : Bool) (x y : A) → (b ≡ true → P x) → (b ≡ false → P y) → P (cond b x y)
by_test P true x y f g = f refl
by_test P false x y f g = g refl

-- ---- the elements taken

pub has_fields : (xs : List Met) → has_field xs ≡ true → 1 ≤ fields_in xs
unfolding has_field fields_in
has_fields [] e = let z : ◌≡◌ {A = ℕ} 0 1 = cc in absurd (omega arith)
has_fields (Met.field f ∷ xs) e = omega arith
has_fields (Met.X n ∷ xs) e = let h = has_fields xs e in omega arith
has_fields (Met.T n ∷ xs) e = let h = has_fields xs e in omega arith
has_fields (Met.slash ∷ xs) e = let h = has_fields xs e in omega arith
has_fields (Met.literal cs ∷ xs) e = let h = has_fields xs e in omega arith
has_fields (Met.setting k ∷ xs) e = let h = has_fields xs e in omega arith

-- ---- where the walk stands after an item

-- the settings after an item
abbrev pub settings_on : Met → Settings → Settings
settings_on (Met.field f) g = g
settings_on (Met.X n) g = g
settings_on (Met.T n) g = g
settings_on Met.slash g = g
settings_on (Met.literal cs) g = g
settings_on (Met.setting k) g = set_by k g

-- from s the item x moves the walk to n
pub record Moved (rs : Records) (x : Met) (s n : State) : Type 0 where
  pub takes : n.taken ≡ s.taken + fields_of x
  pub row_on : s.row ≤ n.row
  pub row_in : s.row < rs.count → n.row < rs.count
  pub from : MetWithin x → 1 ≤ s.column → 1 ≤ n.column
  pub to : s.column ≤ rs.width + 1 → n.column ≤ rs.width + 1
  pub settings : n.settings ≡ settings_on x s.settings

-- what covers w columns where the item x is met at s: the next element, under a field that it suits, or a literal
abbrev pub CoveredBy : List Kind → Met → State → ℕ → What → Type 0
CoveredBy kinds x s w (element i f) = (x ≡ Met.field f) × (i ≡ s.taken) × Suited kinds i f w
CoveredBy kinds x s w (literal cs) = (x ≡ Met.literal cs) × (w ≡ length cs)

-- from s the item x covers the columns of p and moves the walk to n
pub record Covered (kinds : List Kind) (rs : Records) (x : Met) (s : State) (p : Placement) (n : State) : Type 0 where
  pub moved : Moved rs x s n
  pub by : CoveredBy kinds x s p.width p.what
  pub in_row : p.row ≡ s.row
  pub at : p.column ≡ s.column
  pub up_to : p.column + p.width ≡ n.column
  pub settings : p.settings ≡ s.settings

-- what an item does, by cases: a field does not move the walk alone, and ends it only where no element remains; a refusal has
-- its reason
abbrev pub Does : List Kind → Records → Met → State → Step → Type 0
Does kinds rs x s (moves n) = Moved rs x s n × (fields_of x ≡ 0)
Does kinds rs x s (covers p n) = Covered kinds rs x s p n
Does kinds rs x s (refused why) = ItemRefused kinds rs s x why
Does kinds rs x s ends = length kinds ≤ s.taken

module _ (kinds : List Kind) (rs : Records) (s : State) where
  cover_does : (x : Met) (what : What) (w taken : ℕ) → CoveredBy kinds x s w what → taken ≡ s.taken + fields_of x → s.settings ≡ settings_on x s.settings
      → (rs.width + 1 < s.column + w → ItemRefused kinds rs s x (refusal.Column s.taken)) → Does kinds rs x s (cover_step rs s what w taken)
  cover_does x what w taken by t g reason =
      by_test (Does kinds rs x s) (leb (s.column + w) (rs.width + 1))
      (covers (record { what = what; row = s.row; column = s.column; width = w; settings = s.settings }) (to_column s (s.column + w) taken))
      (refused (refusal.Column s.taken))
      (λ e. record {
        moved = record { takes = t; row_on = omega arith; row_in = λ h. h; from = λ m h. omega arith; to = λ _. leb-true _ _ e; settings = g };
        by = by;
        in_row = refl;
        at = refl;
        up_to = refl;
        settings = refl;
      })
      (λ e. reason (leb-false (s.column + w) (rs.width + 1) e))

  field_does : (f : Field ℕ) → Does kinds rs (Met.field f) s (field_step rs s f (drop s.taken kinds))
  field_does f =
      go (ltb s.taken (length kinds)) refl
    where
      go : (b : Bool) → ltb s.taken (length kinds) ≡ b → Does kinds rs (Met.field f) s (field_step rs s f (drop s.taken kinds))
      go true e =
          let lt : s.taken < length kinds = ltb-true _ _ e in
          let k : Kind = get_or kinds s.taken integer in
          rw (drop-cons kinds s.taken integer lt)
          (by_test (Does kinds rs (Met.field f) s) (suits f k)
          (cover_step rs s (element s.taken f) (field_width f k) (s.taken + 1))
          (refused (refusal.Kind s.taken))
          (λ g. cover_does (Met.field f) (element s.taken f) (field_width f k) (s.taken + 1) (refl, refl, record { known = lt; suited = g; wide = refl }) refl refl
          (λ l. ItemRefused.field_columns_lem lt g l))
          (λ g. ItemRefused.wrong_kind lt g))
      go false e =
          let le : length kinds ≤ s.taken = ltb-false _ _ e in
          rw (drop_of_length-le kinds le) le

  next_moved : ltb (s.row + 1) rs.count ≡ true → Moved rs Met.slash s (to_next_record s)
  next_moved e = record { takes = omega arith; row_on = omega arith; row_in = λ h. ltb-true _ _ e; from = λ m h. omega arith; to = λ _. omega arith; settings = refl }

  slash_does : Does kinds rs Met.slash s (next_record rs s)
  slash_does =
      by_test (Does kinds rs Met.slash s) (ltb (s.row + 1) rs.count) (moves (to_next_record s)) (refused (refusal.NextRecord s.taken))
      (λ e. (next_moved e, refl)) (λ e. ItemRefused.slash_record (ltb-false (s.row + 1) rs.count e))

  pub step_does : (x : Met) → Does kinds rs x s (step kinds rs x s)
  unfolding step
  step_does (Met.field f) = field_does f
  step_does (Met.X n) =
      by_test (Does kinds rs (Met.X n) s) (leb (s.column + n) (rs.width + 1)) (moves (to_column s (s.column + n) s.taken)) (refused (refusal.Column s.taken))
      (λ e. (record { takes = omega arith; row_on = omega arith; row_in = λ h. h; from = λ m h. omega arith; to = λ _. leb-true _ _ e; settings = refl }, refl))
      (λ e. ItemRefused.X-column (leb-false (s.column + n) (rs.width + 1) e))
  step_does (Met.T n) =
      by_test (Does kinds rs (Met.T n) s) (leb n rs.width) (moves (to_column s n s.taken)) (refused (refusal.Column s.taken))
      (λ e. (record { takes = omega arith; row_on = omega arith; row_in = λ h. h; from = λ m h. m.0; to = λ _. omega (arith, leb-true n rs.width e); settings = refl }, refl))
      (λ e. ItemRefused.T-column (leb-false n rs.width e))
  step_does Met.slash = slash_does
  step_does (Met.literal cs) = cover_does (Met.literal cs) (literal cs) (length cs) s.taken (refl, refl) (omega arith) refl (λ l. ItemRefused.literal_columns l)
  step_does (Met.setting k) = (record { takes = omega arith; row_on = omega arith; row_in = λ h. h; from = λ m h. h; to = λ h. h; settings = refl }, refl)

  -- the end of the format: the walk ends where no element remains, goes on as at a slash to a part with a field, or is refused
  abbrev pub AtEnd : List Met → Step → Type 0
  AtEnd part (moves n) = Moved rs Met.slash s n × (1 ≤ fields_in part) × (s.taken < length kinds)
  AtEnd part (covers p n) = ⊥
  AtEnd part (refused why) = EndRefused kinds rs part s why
  AtEnd part ends = length kinds ≤ s.taken

  pub end_does : (part : List Met) → AtEnd part (end_step kinds rs part s)
  unfolding end_step
  end_does part =
      by_test (AtEnd part) (leb (length kinds) s.taken) ends (cond (has_field part) (next_record rs s) (refused (refusal.NoField s.taken)))
      (λ e. leb-true _ _ e)
      (λ e.
      by_test (AtEnd part) (has_field part) (next_record rs s) (refused (refusal.NoField s.taken))
      (λ f.
      by_test (AtEnd part) (ltb (s.row + 1) rs.count) (moves (to_next_record s)) (refused (refusal.NextRecord s.taken))
      (λ g. (next_moved g, has_fields part f, leb-false (length kinds) s.taken e))
      (λ g. EndRefused.no_record (leb-false (length kinds) s.taken e) f (ltb-false (s.row + 1) rs.count g)))
      (λ f. EndRefused.no_field (leb-false (length kinds) s.taken e) f))
