-- The loop that tests the elements of a list.
-- Assumes nothing.
use Rattle.std.proofs.Common.{◌≡◌, refl, sym, ap, ◌∙◌, Bool, true, false, List, ◌∷◌, map, ℕ, ◌+◌, ◌<◌, ◌≤◌, min, arith, length, get_or, take, drop}
use Rattle.std.specs.Prelude.{Option, None, Some}
use Rattle.std.proofs.lemmas.List.{length-map, take-map}
use Rattle.std.proofs.Common.{Bor}
use Rattle.std.specs.Option.{ok_or}
use Rattle.std.specs.Slice.{IsGetRangeResult}
use mathlib.Core.Logic.{◌⊎◌, inl, inr}
use native.Mathlib.Decide.{dec_le}
use native.Mathlib.Nat.{sub-zero}
use native.Mathlib.Numerals.{add-one}
use borrow.Author.Tests.{lt-ltb, le-ltb}
use lib.ListN.{drop_of_length-le, get_or-map, length-take}
use lib.Seq.{take_all, take-take, drop-cons}
use Rattle.list_elements.specs.Elements.{value_of, values, most_elements}
use Rattle.list_elements.specs.Checked.{CheckedAs}
use Rattle.list_elements.specs.Limits.{good, bad, first_failing, check_values, check_list}
use Rattle.list_elements.specs.declared.Value.{Value}
use Rattle.list_elements.specs.declared.Element.{Element}
use Rattle.list_elements.specs.declared.List as carried

-- the values of some elements
abbrev pub values_of : List Element → List Value
values_of es = map value_of es

-- ---- of the elements es the first i pass the test

pub record Checked (test : Value → Bool) (es : List Element) (i : ℕ) : Type 0 where
  pub left : first_failing test 0 (values_of es) ≡ first_failing test i (drop i (values_of es))

pub checked_none : {test : Value → Bool} {es : List Element} → Checked test es 0
checked_none = record { left = refl }

module _ {test : Value → Bool} {es : List Element} {i : ℕ} (t : Checked test es i) where
  module _ (e : Element) (h : i < length es) where
    next : first_failing test i (drop i (values_of es)) ≡ first_failing test i (value_of (get_or es i e) ∷ drop (i + 1) (values_of es))
    next =
        let l : i < length (values_of es) = rw length-map h in
        rw (add-one i, drop-cons (values_of es) i (value_of e) l, get_or-map value_of es i e)

    pub checked_more : test (value_of (get_or es i e)) ≡ true → Checked test es (i + 1)
    unfolding first_failing
    checked_more w = record { left = t.left ∙ next ∙ rw w }

    pub checked_bad : test (value_of (get_or es i e)) ≡ false → first_failing test 0 (values_of es) ≡ bad i
    unfolding first_failing
    checked_bad w = t.left ∙ next ∙ rw w

  pub checked_good : length es ≤ i → first_failing test 0 (values_of es) ≡ good
  unfolding first_failing
  checked_good h =
      let l : length (values_of es) ≤ i = rw length-map h in
      t.left ∙ rw (drop_of_length-le (values_of es) l)

-- ---- row 6, by the elements before the count, so many at most

-- the length of an array in a struct
pub any_map : {X Y : Type 0} (f : X → Y) (l : List X) (n : ℕ) → length (map f l) ≡ n → length l ≡ n
any_map f l n e = sym (length-map l f) ∙ e

module _ (test : Value → Bool) (l : carried.List) {n : ℕ} (is : n ≡ min l.count most_elements) where
  firsts : take most_elements (values l) ≡ values_of (take n l.elements)
  unfolding values
  firsts = go (dec_le l.count most_elements) ∙ take-map value_of n l.elements
    where
      go : Dec (l.count ≤ most_elements) → take most_elements (take l.count (values_of l.elements)) ≡ take n (values_of l.elements)
      go (yes h) =
          let e : n ≡ l.count = omega arith in
          take_all most_elements (take l.count (values_of l.elements)) (omega (arith, length-take l.count (values_of l.elements))) ∙ ap (λ k. take k (values_of l.elements)) (sym e)
      go (no h) =
          let e : n ≡ most_elements = omega arith in
          take-take most_elements l.count (values_of l.elements) (omega arith) ∙ ap (λ k. take k (values_of l.elements)) (sym e)

  pub check_bad : {i : ℕ} → first_failing test 0 (values_of (take n l.elements)) ≡ bad i → check_list test l ≡ bad i
  unfolding check_values
  check_bad e = rw (firsts, e)

  pub check_many : first_failing test 0 (values_of (take n l.elements)) ≡ good → most_elements < l.count → check_list test l ≡ bad most_elements
  unfolding check_values
  check_many e h = rw (firsts, e, lt-ltb most_elements l.count h)

  pub check_fine : first_failing test 0 (values_of (take n l.elements)) ≡ good → l.count ≤ most_elements → check_list test l ≡ good
  unfolding check_values
  check_fine e h = rw (firsts, e, le-ltb most_elements l.count h)

  -- the elements before the count, where there are so many
  pub checked_as : (o : Option (Bor (List Element))) → IsGetRangeResult l.elements 0 l.count o → length l.elements ≡ most_elements → first_failing test 0 (values_of (take n l.elements)) ≡ good
      → CheckedAs test l (ok_or o (record { place = most_elements }))
  checked_as None h full e = check_many e (over h.0)
    where
      over : (l.count < 0) ⊎ (length l.elements < l.count) → most_elements < l.count
      over (inl g) = absurd (omega arith)
      over (inr g) = omega arith
  checked_as (Some es) h full e = (check_fine e (omega (arith, h.0.1)), h.0.2 ∙ rw (sub-zero l.count))

-- how many values a list has, its array being of full length
module _ (l : carried.List) (full : length l.elements ≡ most_elements) where
  pub values_length : length (values l) ≡ min l.count most_elements
  unfolding values
  values_length = simp (length-take, length-map, full)
