-- A walk of placements read back: the shown values where none is starred, else a refusal at the first starred one.
-- Assumes nothing.
use mathlib.Core.Path.{◌≡◌, refl, sym, ap, ◌∙◌}
use mathlib.Core.Bool.{Bool, true, false, cond}
use mathlib.Core.List.{List, [], ◌∷◌, map}
use Prim.Native.Nat.{ℕ, zero, suc, ◌+◌, ◌≤◌}
use native.Mathlib.Omega.{arith}
use lib.ListN.{length, drop, get_or}
use lib.Seq.{get_or-drop, drop-drop}
use Rattle.format_items.specs.Items.{Field}
use Rattle.list_elements.specs.Elements.{Kind, integer}
use Rattle.list_elements.specs.Contents.{Content, content_kind, content_of}
use Rattle.sheet_walk.specs.Steps.{What, element, literal, Placement}
use Rattle.sheet_walk.specs.Walk.{Trace, put, done, stopped}
use Rattle.sheet_walk.specs.Columns.{In, here, there}
use Rattle.sheet_walk.specs.Laid.{columns}
use Rattle.sheet_walk.specs.Promises.{EndsWith, place_of, elements_put, numbers_from}
use Rattle.sheet_walk.specs.declared.Refusal.{Refusal}
use Rattle.sheet_walk.specs.declared.Refusal.TheVariants.{FieldText}
use Rattle.sheet_walk.proofs.Covering.{in-put}
use Rattle.write_passes.specs.Placed.{value_at, field_starred, starred_of, is_starred}
use Rattle.buffer.proofs.Tests.{no_way}
use Rattle.sheet_write.specs.Promises as writing
use Rattle.sheet_write.specs.Promises.{values_of}
use Rattle.read_passes.specs.Given.{gives, nothing, field_gives, Gathered, accepted, refused, in_front, element_gathered, kind_at, what_gathered, gathered, shown}
use Rattle.read_back.specs.DemandThree.{Starred, StarredField, FirstStarred, shown_in_front, shown_values}
use Rattle.read_back.proofs.FieldBack.{starred_stars, stars_starred}

-- ---- elements put in order

-- the first of the numbers from k on, and those after it
front_number : {i : ℕ} {is : List ℕ} (k n : ℕ) → i ∷ is ≡ numbers_from k n → (i ≡ k) × ((m : ℕ) × (is ≡ numbers_from (k + 1) m))
unfolding numbers_from
front_number k zero e = let z : ◌≡◌ {A = ℕ} 0 1 = cc in absurd (omega arith)
front_number k (suc m) e = ((cc), (m, (cc)))

-- the elements put after one placement
rest_numbers : (what : What) (is : List ℕ) (k n : ℕ) → place_of what is ≡ numbers_from k n → (j : ℕ) × (m : ℕ) × (k ≤ j) × (is ≡ numbers_from j m)
rest_numbers (element i f) is k n e = let r = (front_number k n e).1 in (k + 1, r.0, omega arith, r.1)
rest_numbers (literal cs) is k n e = (k, n, omega arith, e)

-- every element put has a place from the first number on
put_from : {q : Placement} {t : Trace} → In q t → (k n : ℕ) → elements_put t ≡ numbers_from k n → (j : ℕ) (f : Field ℕ) → q.what ≡ element j f → k ≤ j
unfolding elements_put
put_from here k n e j f q = let s : j ≡ k = (front_number k n (rw q at e)).0 in omega arith
put_from (there {q = p} {t} m) k n e j f q =
    let r = rest_numbers p.what (elements_put t) k n e in
    let l = put_from m r.0 r.1 r.3 j f q in
    omega (arith, r.2)

-- the kinds at the numbers of a list are the list
kinds_from : (all ks : List Kind) (i : ℕ) → drop i all ≡ ks → map (kind_at all) (numbers_from i (length ks)) ≡ ks
unfolding numbers_from
kinds_from all [] i e = refl
kinds_from all (k ∷ ks) i e =
    let z : i ≡ i + 0 = omega arith in
    let first : kind_at all i ≡ k = ap (kind_at all) z ∙ sym (get_or-drop i all 0 integer) ∙ ap (λ l. kind_at l 0) e in
    rw (first, kinds_from all ks (i + 1) (sym (drop-drop 1 i all) ∙ ap (drop 1) e))

pub kinds_numbered : (ks : List Kind) → map (kind_at ks) (numbers_from 0 (length ks)) ≡ ks
kinds_numbered ks = kinds_from ks ks 0 refl

module _ (c : writing.Call) where
  -- the shown value of the element i under the field f of p
  abbrev pub shown_at : Placement → ℕ → Field ℕ → Content
  shown_at p i f = shown f p.width (content_of c.area (value_at (values_of c) i))

  -- ---- starred fields, and the test for them

  -- where the test is met the field is starred, and the other way round
  pub test_starred : (p : Placement) → is_starred (values_of c) p ≡ true → StarredField c p
  test_starred p = go p.what refl
    where
      go : (what : What) → p.what ≡ what → starred_of (values_of c) p.settings p.width what ≡ true → StarredField c p
      go (element i f) q e =
          let s = starred_stars c.area p.settings f p.width (value_at (values_of c) i) e in
          (i, record { f = f; is = q; is_numeric = s.0; asterisks = rw q s.1 })
      go (literal cs) q e = no_way e

  pub starred_test : (p : Placement) (i : ℕ) → Starred c i p → is_starred (values_of c) p ≡ true
  starred_test p i s =
      rw s.is (stars_starred c.area p.settings s.f p.width (value_at (values_of c) i) s.is_numeric (rw s.is at s.asterisks))

  -- ---- the first starred one on the walk, that of element i

  pub data FirstOn (i : ℕ) : Trace → Type 0 where
    front : {p : Placement} {t : Trace} → Starred c i p → FirstOn i (put p t)
    later : {p : Placement} {t : Trace} → is_starred (values_of c) p ≡ false → FirstOn i t → FirstOn i (put p t)

  -- some placement of the walk is starred, so one is the first
  first_front : (p : Placement) (t : Trace) → is_starred (values_of c) p ≡ true → (i : ℕ) × FirstOn i (put p t)
  first_front p t e = let s = test_starred p e in (s.0, FirstOn.front s.1)

  pub find_first : {p : Placement} {t : Trace} → In p t → is_starred (values_of c) p ≡ true → (i : ℕ) × FirstOn i t
  find_first {p} (here {t}) e = first_front p t e
  find_first (there {q} {t} m) e = go (is_starred (values_of c) q) refl (find_first m e)
    where
      go : (b : Bool) → is_starred (values_of c) q ≡ b → (i : ℕ) × FirstOn i t → (i : ℕ) × FirstOn i (put q t)
      go true g r = first_front q t g
      go false g r = (r.0, FirstOn.later g r.1)

  -- elements are put in list order, so that it is the first in list order
  pub first_starred : {i : ℕ} {t : Trace} → FirstOn i t → (k n : ℕ) → elements_put t ≡ numbers_from k n → FirstStarred c t i
  unfolding elements_put
  first_starred {i} (FirstOn.front {p} {t} s) k n e =
      let first : i ≡ k = (front_number k n (rw s.is at e)).0 in
      record { p = p; on_walk = here; starred = s; first = λ j q m r. let l = put_from m k n e j r.f r.is in omega arith }
  first_starred {i} (FirstOn.later {p} {t} u f) k n e =
      let r = rest_numbers p.what (elements_put t) k n e in
      let a = first_starred f r.0 r.1 r.3 in
      record {
        p = a.p;
        on_walk = there a.on_walk;
        starred = a.starred;
        first = λ j q m. in-put (λ q₁. Starred c j q₁ → i ≤ j) (λ s. no_way (sym u ∙ starred_test p j s)) (λ q₁ m₁. a.first j q₁ m₁) q m;
      }

  -- ---- what is gathered

  module _ (R : ℕ) (kinds : List Kind) (records : List ℕ) where
    -- the field of a placement gives the shown value, or nothing where it is starred
    abbrev pub Back : Placement → Type 0
    Back p =
        (i : ℕ) (f : Field ℕ) → p.what ≡ element i f
        → field_gives f (kind_at kinds i) (columns R p records) ≡ cond (field_starred p.settings f p.width (value_at (values_of c) i)) nothing (gives (shown_at p i f))

    -- what a placement that is not starred puts in front of what follows
    abbrev before : Placement → What → Gathered → Gathered
    before p (element i f) rest = in_front (shown_at p i f) rest
    before p (literal cs) rest = rest

    unstarred_front : (p : Placement) → Back p → is_starred (values_of c) p ≡ false → (rest : Gathered)
        → what_gathered R kinds records p p.what rest ≡ before p p.what rest
    unstarred_front p b e rest = go p.what refl e
      where
        go : (what : What) → p.what ≡ what → starred_of (values_of c) p.settings p.width what ≡ false → what_gathered R kinds records p what rest ≡ before p what rest
        go (element i f) q u = ap (λ g. element_gathered i g rest) (b i f q ∙ ap (λ k. cond k nothing (gives (shown_at p i f))) u)
        go (literal cs) q u = refl

    -- the shown values
    before_accepted : (p : Placement) (what : What) (cs : List Content) (n : ℕ) → before p what (accepted cs n) ≡ accepted (shown_in_front c p what cs) n
    before_accepted p (element i f) cs n = refl
    before_accepted p (literal bytes) cs n = refl

    pub gathered_shown : {n : ℕ} {t : Trace} → EndsWith n t → ((p : Placement) → In p t → Back p × (is_starred (values_of c) p ≡ false))
        → gathered R kinds records t ≡ accepted (shown_values c t) n
    unfolding gathered shown_values
    gathered_shown EndsWith.here all = refl
    gathered_shown {n} (EndsWith.there {p} {t} e) all =
        let a = all p here in
        unstarred_front p a.0 a.1 (gathered R kinds records t)
        ∙ ap (before p p.what) (gathered_shown e (λ q m. all q (there m)))
        ∙ before_accepted p p.what (shown_values c t) n

    -- the refusal at the first starred one
    before_refused : (p : Placement) (what : What) (why : Refusal) → before p what (refused why) ≡ refused why
    before_refused p (element i f) why = refl
    before_refused p (literal bytes) why = refl

    pub gathered_first : {i : ℕ} {t : Trace} → FirstOn i t → ((p : Placement) → In p t → Back p) → gathered R kinds records t ≡ refused (FieldText i)
    unfolding gathered
    gathered_first {i} (FirstOn.front {p} {t} s) all =
        let u : field_starred p.settings s.f p.width (value_at (values_of c) i) ≡ true = rw s.is at (starred_test p i s) in
        ap (λ what. what_gathered R kinds records p what (gathered R kinds records t)) s.is
        ∙ ap (λ g. element_gathered i g (gathered R kinds records t)) (all p here i s.f s.is ∙ ap (λ k. cond k nothing (gives (shown_at p i s.f))) u)
    gathered_first {i} (FirstOn.later {p} {t} u f) all =
        unstarred_front p (all p here) u (gathered R kinds records t)
        ∙ ap (before p p.what) (gathered_first f (λ q m. all q (there m)))
        ∙ before_refused p p.what (FieldText i)

  -- ---- the shown value of each element

  -- elements being put from place k on, that of the element at k + j has the place j
  pub shown_at_lem : {p : Placement} {t : Trace} → In p t → (k n : ℕ) → elements_put t ≡ numbers_from k n → (j i : ℕ) (f : Field ℕ) → p.what ≡ element i f → i ≡ k + j
      → (past : Content) → get_or (shown_values c t) j past ≡ shown_at p i f
  unfolding shown_values elements_put
  shown_at_lem here k n e zero i f q l past = rw q
  shown_at_lem here k n e (suc j) i f q l past = let s : i ≡ k = (front_number k n (rw q at e)).0 in absurd (omega arith)
  shown_at_lem {p} (there {q = r} {t} m) k n e j i f q l past = go r.what j e l (λ h a u b v. shown_at_lem m h a u b i f q v past)
    where
      go : (what : What) (y : ℕ) → place_of what (elements_put t) ≡ numbers_from k n → i ≡ k + y
          → ((h a : ℕ) → elements_put t ≡ numbers_from h a → (b : ℕ) → i ≡ h + b → get_or (shown_values c t) b past ≡ shown_at p i f)
          → get_or (shown_in_front c r what (shown_values c t)) y past ≡ shown_at p i f
      go (element h g) zero u v rest =
          let s = (front_number k n u).1 in
          let low = put_from m (k + 1) s.0 s.1 i f q in
          absurd (omega arith)
      go (element h g) (suc y) u v rest = let s = (front_number k n u).1 in rest (k + 1) s.0 s.1 y (omega arith)
      go (literal cs) y u v rest = rest k n u y v

  -- ---- the kinds of the shown values

  module _ (kinds : List Kind) where
    kinds_before : (p : Placement) (what : What) → p.what ≡ what → ((i : ℕ) (f : Field ℕ) → p.what ≡ element i f → content_kind (shown_at p i f) ≡ kind_at kinds i)
        → (cs : List Content) (is : List ℕ) → map content_kind cs ≡ map (kind_at kinds) is → map content_kind (shown_in_front c p what cs) ≡ map (kind_at kinds) (place_of what is)
    kinds_before p (element i f) q k cs is e = rw (k i f q, e)
    kinds_before p (literal bytes) q k cs is e = e

    pub kinds_shown : (t : Trace) → ((p : Placement) → In p t → (i : ℕ) (f : Field ℕ) → p.what ≡ element i f → content_kind (shown_at p i f) ≡ kind_at kinds i)
        → map content_kind (shown_values c t) ≡ map (kind_at kinds) (elements_put t)
    unfolding shown_values elements_put
    kinds_shown (put p t) all = kinds_before p p.what refl (all p here) (shown_values c t) (elements_put t) (kinds_shown t (λ q m. all q (there m)))
    kinds_shown (done n) all = refl
    kinds_shown (stopped why) all = refl
