-- What is gathered on a walk that puts every element once, in order: each element holds what its field gives.
-- Assumes nothing.
use mathlib.Core.Path.{◌≡◌, refl, ap, ◌∙◌}
use mathlib.Core.Bool.{true}
use mathlib.Core.List.{List, [], ◌∷◌, map}
use Prim.Native.Nat.{ℕ, zero, suc, ◌+◌}
use native.Mathlib.Numerals.{add-one}
use native.Mathlib.Omega.{arith}
use lib.IntN.{pos}
use lib.ListN.{length, drop, get_or, drop_of_length-le}
use lib.Seq.{drop-cons}
use Rattle.format_items.specs.Items.{Field}
use Rattle.list_elements.specs.Elements.{Kind}
use Rattle.list_elements.specs.Elements as kind
use Rattle.list_elements.specs.Contents.{Content, integer, content_kind}
use Rattle.sheet_walk.specs.Steps.{What, element, literal, Placement, suits}
use Rattle.sheet_walk.specs.Walk.{Trace, put}
use Rattle.sheet_walk.specs.Columns.{In, here, there}
use Rattle.sheet_walk.specs.Laid.{columns}
use Rattle.sheet_walk.specs.Promises.{EndsWith, elements_put, numbers_from}
use Rattle.sheet_walk.proofs.Covering.{in-put, in-done}
use Rattle.read_passes.specs.Given.{gives, kind_at}
use Rattle.read_passes.proofs.GivenLaws.{given_kind}
use Rattle.read_passes.proofs.GatheredLaws.{at_literal, at_element, given_at, Gathers}

-- ---- numbers in order

-- the first of them, and the rest
pub record First (i : ℕ) (is : List ℕ) (k m : ℕ) : Type 0 where
  pub rest : ℕ
  pub count : m ≡ suc rest
  pub is_first : i ≡ k
  pub are_rest : is ≡ numbers_from (k + 1) rest

first_number : (i : ℕ) (is : List ℕ) (k m : ℕ) → i ∷ is ≡ numbers_from k m → First i is k m
unfolding numbers_from
first_number i is k zero e = let z : ◌≡◌ {A = ℕ} 0 1 = cc in absurd (omega arith)
first_number i is k (suc l) e = record { rest = l; count = refl; is_first = cc; are_rest = cc }

no_number : (k m : ℕ) → [] ≡ numbers_from k m → m ≡ 0
unfolding numbers_from
no_number k zero e = refl
no_number k (suc l) e = let z : ◌≡◌ {A = ℕ} 0 1 = cc in absurd (omega arith)

-- the kinds at all places
pub kinds_at : (kinds : List Kind) (k m : ℕ) → k + m ≡ length kinds → map (kind_at kinds) (numbers_from k m) ≡ drop k kinds
unfolding numbers_from
kinds_at kinds k zero e = rw (drop_of_length-le kinds {i = k} (omega arith))
kinds_at kinds k (suc m) e = rw (kinds_at kinds (k + 1) m (omega arith), drop-cons kinds k kind.integer (omega arith), add-one k)

-- ---- one placement

-- its field, where it has one, gives what is at the element's place
abbrev pub GivesAt : ℕ → List Kind → List ℕ → List Content → Placement → Type 0
GivesAt R kinds records cs p = (i : ℕ) (f : Field ℕ) → p.what ≡ element i f → given_at R kinds records p i f ≡ gives (get_or cs i (integer (pos 0)))

-- its field, where it has one, suits the element's kind
abbrev pub SuitsAt : List Kind → Placement → Type 0
SuitsAt kinds p = (i : ℕ) (f : Field ℕ) → p.what ≡ element i f → suits f (kind_at kinds i) ≡ true

module _ (R : ℕ) (kinds : List Kind) (records : List ℕ) where
  literal_gives : (cs : List Content) (p : Placement) (bytes : List ℕ) → p.what ≡ literal bytes → GivesAt R kinds records cs p
  literal_gives cs p = at_literal (λ i f. given_at R kinds records p i f ≡ gives (get_or cs i (integer (pos 0)))) p

  element_gives : (cs : List Content) (p : Placement) (i : ℕ) (f : Field ℕ) → p.what ≡ element i f → given_at R kinds records p i f ≡ gives (get_or cs i (integer (pos 0))) → GivesAt R kinds records cs p
  element_gives cs p = at_element (λ i f. given_at R kinds records p i f ≡ gives (get_or cs i (integer (pos 0)))) p

  -- before a walk that gathers the contents from the place where it begins
  put_fields : (cs : List Content) (k m : ℕ) (p : Placement) (t : Trace) (n : ℕ) → GivesAt R kinds records cs p → elements_put (put p t) ≡ numbers_from k m
      → k + m ≡ length cs → ((j r : ℕ) → elements_put t ≡ numbers_from j r → j + r ≡ length cs → Gathers R kinds records t (drop j cs) n)
      → Gathers R kinds records (put p t) (drop k cs) n
  unfolding elements_put
  put_fields cs k m p t n a e l rest = go p.what refl
    where
      go : (what : What) → p.what ≡ what → Gathers R kinds records (put p t) (drop k cs) n
      go (element i f) q =
          let r : First i (elements_put t) k m = first_number i (elements_put t) k m (rw q at e) in
          let g : given_at R kinds records p i f ≡ gives (get_or cs k (integer (pos 0))) = a i f q ∙ ap (λ (j : ℕ). gives (get_or cs j (integer (pos 0)))) r.is_first in
          rw (drop-cons cs k (integer (pos 0)) (omega arith), ← add-one k) (Gathers.takes q g (rest (k + 1) r.rest r.are_rest (omega arith)))
      go (literal bytes) q = Gathers.passes q (rest k m (rw q at e) l)

-- ---- a walk

module _ {R : ℕ} {kinds : List Kind} {records : List ℕ} where
  -- as many contents as elements are put
  pub gathers_length : {t : Trace} {cs : List Content} {n : ℕ} → Gathers R kinds records t cs n → length cs ≡ length (elements_put t)
  unfolding elements_put
  gathers_length Gathers.ends = refl
  gathers_length (Gathers.passes q a) = rw q (gathers_length a)
  gathers_length (Gathers.takes q e a) = rw q (ap suc (gathers_length a))

  -- where the elements from place k on are put and give the contents cs from there on, each gives what is at its place
  pub gathers_fields : (cs : List Content) (k m : ℕ) {t : Trace} {n : ℕ} {ds : List Content} → Gathers R kinds records t ds n → ds ≡ drop k cs
      → elements_put t ≡ numbers_from k m → k + m ≡ length cs → (p : Placement) → In p t → GivesAt R kinds records cs p
  unfolding elements_put
  gathers_fields cs k m (Gathers.ends {n}) d e l = in-done (GivesAt R kinds records cs) n
  gathers_fields cs k m (Gathers.passes {p} {bytes} q a) d e l =
      in-put (GivesAt R kinds records cs) (literal_gives R kinds records cs p bytes q) (gathers_fields cs k m a d (rw q at e) l)
  gathers_fields cs k m (Gathers.takes {p} {t} {c} {cs = ds} {i} {f} q g a) d e l =
      let r : First i (elements_put t) k m = first_number i (elements_put t) k m (rw q at e) in
      let y : c ∷ ds ≡ get_or cs k (integer (pos 0)) ∷ drop (k + 1) cs = d ∙ rw add-one (drop-cons cs k (integer (pos 0)) (omega arith)) in
      let x : c ≡ get_or cs i (integer (pos 0)) = rw r.is_first (cc) in
      in-put (GivesAt R kinds records cs) (element_gives R kinds records cs p i f q (g ∙ ap gives x)) (gathers_fields cs (k + 1) r.rest a (cc) r.are_rest (omega arith))

  -- and the other way round
  pub fields_gather : {n : ℕ} (cs : List Content) (k m : ℕ) {t : Trace} → EndsWith n t → elements_put t ≡ numbers_from k m → k + m ≡ length cs
      → ((p : Placement) → In p t → GivesAt R kinds records cs p) → Gathers R kinds records t (drop k cs) n
  unfolding elements_put
  fields_gather cs k m EndsWith.here e l all =
      let z = no_number k m e in
      rw (drop_of_length-le cs {i = k} (omega arith)) Gathers.ends
  fields_gather {n} cs k m (EndsWith.there {p} {t} h) e l all =
      put_fields R kinds records cs k m p t n (all p here) e l (λ j r g u. fields_gather cs j r h g u (λ s v. all s (there v)))

  -- where the fields suit their elements, the contents have their kinds
  pub gathers_kinds : {t : Trace} {cs : List Content} {n : ℕ} → Gathers R kinds records t cs n → ((p : Placement) → In p t → SuitsAt kinds p)
      → map content_kind cs ≡ map (kind_at kinds) (elements_put t)
  unfolding elements_put
  gathers_kinds Gathers.ends all = refl
  gathers_kinds (Gathers.passes q a) all = rw q (gathers_kinds a (λ s u. all s (there u)))
  gathers_kinds (Gathers.takes {p} {c} {i} {f} q g a) all =
      let h : content_kind c ≡ kind_at kinds i = given_kind f (kind_at kinds i) (columns R p records) c (all p here i f q) g in
      rw (q, h, gathers_kinds a (λ s u. all s (there u)))
