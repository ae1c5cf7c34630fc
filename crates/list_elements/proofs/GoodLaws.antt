-- What it says that a list is good.
-- Assumes nothing.
use mathlib.Core.Path.{◌≡◌, refl, ap, ◌∙◌}
use mathlib.Core.Bool.{Bool, true, false, cond}
use mathlib.Core.List.{List, [], ◌∷◌, map}
use Prim.Native.Nat.{ℕ, zero, suc, ◌+◌, ◌<◌, ◌≤◌}
use native.Mathlib.Nat.{min-le_left, not-suc-le-zero, le_of_suc-le-suc}
use native.Mathlib.Omega.{arith}
use borrow.Author.Tests.{ltb-false}
use lib.Dec.{ltb}
use lib.ListN.{length, get_or, take, length-take, get_or-map}
use lib.Seq.{take_all}
use Rattle.std.specs.Prelude.{Ok, Err, All}
use Rattle.std.proofs.lemmas.List.{length-map, take-map, get_or_default}
use Rattle.list_elements.specs.Elements.{value_of, zero_value, values, most_elements}
use Rattle.list_elements.specs.Limits.{ListCheck, good, bad, check_list, first_failing, over_limit, check_values}
use Rattle.list_elements.specs.declared.Value.{Value}
use Rattle.list_elements.specs.declared.Element.{Element}
use Rattle.list_elements.specs.declared.List as carried

pub bad_not_good : {P : Type 0} {i : ℕ} → bad i ≡ good → P
bad_not_good e = cc

good_first : (test : Value → Bool) (j : ℕ) (v : Value) (vs : List Value) → first_failing test j (v ∷ vs) ≡ good → (test v ≡ true) × (first_failing test (j + 1) vs ≡ good)
unfolding first_failing
good_first test j v vs e = go (test v) refl e
  where
    go : (b : Bool) → test v ≡ b → cond b (first_failing test (j + 1) vs) (bad j) ≡ good → (test v ≡ true) × (first_failing test (j + 1) vs ≡ good)
    go true p f = (p, f)
    go false p f = bad_not_good f

good_from : (test : Value → Bool) (j : ℕ) (vs : List Value) → first_failing test j vs ≡ good → (i : ℕ) → i < length vs → test (get_or vs i zero_value) ≡ true
good_from test j [] e i h = absurd (not-suc-le-zero h)
good_from test j (v ∷ vs) e zero h = (good_first test j v vs e).0
good_from test j (v ∷ vs) e (suc i) h = good_from test (j + 1) vs (good_first test j v vs e).1 i (le_of_suc-le-suc h)

pub good_at : (test : Value → Bool) (vs : List Value) → first_failing test 0 vs ≡ good → (i : ℕ) → i < length vs → test (get_or vs i zero_value) ≡ true
good_at test vs e i h = good_from test 0 vs e i h

-- a list has no more values than its count says
pub values_most : (l : carried.List) → length (values l) ≤ l.count
unfolding values
values_most l = rw length-take (min-le_left l.count (length (map value_of l.elements)))

over_good : (most count : ℕ) (r : ListCheck) → over_limit most count r ≡ good → (r ≡ good) × (count ≤ most)
over_good most count (Ok u) e = (refl, go (ltb most count) refl e)
  where
    go : (b : Bool) → ltb most count ≡ b → cond b (bad most) good ≡ good → count ≤ most
    go true p f = bad_not_good f
    go false p f = ltb-false most count p
over_good most count (Err i) e = bad_not_good e

pub check_good : (test : Value → Bool) (l : carried.List) → check_list test l ≡ good → (first_failing test 0 (values l) ≡ good) × (l.count ≤ most_elements)
unfolding check_values
check_good test l e =
    let w = over_good most_elements l.count (first_failing test 0 (take most_elements (values l))) e in
    let h : length (values l) ≤ most_elements = omega (arith, values_most l) in
    (rw (take_all most_elements (values l) h) at w.0, w.1)

-- every element of a good list passes
pub good_all : (test : Value → Bool) (l : carried.List) (es : List Element) → check_list test l ≡ good → es ≡ take l.count l.elements → All (λ e. test (value_of e) ≡ true) es
unfolding values
good_all test l es g is =
    let w = (check_good test l g).0 in
    let vs : values l ≡ map value_of (take l.count l.elements) = take-map value_of l.count l.elements in
    rw is (λ k d h.
    let m : k < length (map value_of (take l.count l.elements)) = rw length-map h in
    let n : k < length (values l) = rw vs m in
    let e : get_or (values l) k zero_value ≡ value_of (get_or (take l.count l.elements) k d) =
    ap (λ xs. get_or xs k zero_value) vs ∙ get_or_default (map value_of (take l.count l.elements)) k zero_value (value_of d) m ∙ get_or-map value_of (take l.count l.elements) k d in
    rw e at (good_at test (values l) w k n))
