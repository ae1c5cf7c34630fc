-- What is taken of a part of the walk in reading.
-- Assumes nothing.
use Rattle.std.proofs.Common.{◌≡◌, refl, sym, ap, subst, ◌∙◌, true, false, List, [], ◌∷◌, ◌++◌, ℕ, ◌+◌, ◌<◌, ◌≤◌, arith, length, take, drop, get_or, pos}
use Rattle.std.specs.Prelude.{Option, Some, None}
use Rattle.std.proofs.lemmas.List.{length-map}
use mathlib.Core.List.{append_assoc, append-nil}
use native.Mathlib.Decide.{dec_lt}
use lib.ListN.{set, length-append, get_or-append, get_or-map}
use lib.Seq.{get_or_at, get_or-set_same, get_or-set_other}
use Rattle.list_elements.specs.Elements.{Kind, zero_value, value_of, kind_of, kinds_of}
use Rattle.list_elements.specs.Contents as content
use Rattle.list_elements.specs.Contents.{Content, element_of}
use Rattle.list_elements.specs.declared.Value.{Value}
use Rattle.list_elements.specs.declared.Element.{Element}
use Rattle.sheet_walk.specs.Walk.{Trace, put, done, stopped}
use Rattle.sheet_walk.specs.Laid.{columns}
use lib.Dec.{leb}
use Rattle.format_words.specs.Packing.{literal_kind, kind_in, detail_in, columns_in}
use Rattle.sheet_walk.specs.Given.{given_sheet}
use Rattle.sheet_walk.specs.declared.Cover.{Cover}
use Rattle.sheet_walk.specs.declared.Refusal.{Refusal}
use Rattle.sheet_walk.specs.declared.Refusal.TheVariants.{FieldText}
use Rattle.sheet_walk.specs.declared.walk.Walk.{Walk}
use Rattle.sheet_walk.specs.declared.placing.Placed.{Placed}
use Rattle.sheet_walk.specs.declared.placing.Stop.TheVariants as stop
use Rattle.sheet_walk.specs.Followed.{GoesBy, left_of, PlacedAs}
use Rattle.sheet_walk.proofs.Parts.{First, PlacedIn, placed_in, stops_full}
use Rattle.sheet_walk.proofs.OneByOne.{cover_at, begins_at, begins_end, FieldAt, as_field, as_literal, takes_one, takes_none}
use Rattle.read_passes.specs.declared.Sheet.{Sheet}
use Rattle.read_passes.specs.Given.{Given, gives, nothing, field_gives, Gathered, accepted, refused, in_front, element_gathered, kind_at, gathered}
use Rattle.read_passes.specs.Passes.{found_in, FoundAs, FoundSoFar, walk_of, gathered_of, BeginsIn, joined, Gathering, TookAs}
use Rattle.read_passes.proofs.FindLaws.{GivenAs, found_as}

-- ---- what was gathered before the rest

pub joined_none : (g : Gathered) → joined [] g ≡ g
joined_none (accepted ds n) = refl
joined_none (refused why) = refl

joined_more : (cs : List Content) (c : Content) (g : Gathered) → joined (cs ++ c ∷ []) g ≡ joined cs (in_front c g)
joined_more cs c (accepted ds n) = ap (λ (z : List Content). accepted z n) (append_assoc cs (c ∷ []) ds)
joined_more cs c (refused why) = refl

-- ---- the first elements

module _ (records : List ℕ) (kinds : List Kind) (es : List Element) (cs : List Content) (h : FoundSoFar records kinds es cs) where
  found_more : (i : ℕ) → length cs ≡ i → i < length es → (v : Value) (c : Content) → FoundAs records (kind_at kinds i) v c
      → FoundSoFar records kinds (set es i (element_of v)) (cs ++ c ∷ [])
  found_more i e l v c k j m = elim (dec_lt j i) [ yes g ↦ before g | no g ↦ at g ]
    where
      zero : Element
      zero = record { value = zero_value }

      nil : Content
      nil = content.integer (pos 0)

      before : j < i → FoundAs records (kind_at kinds j) (value_of (get_or (set es i (element_of v)) j zero)) (get_or (cs ++ c ∷ []) j nil)
      before g =
          let o : j ≡ i → ⊥ = λ q. omega arith in
          let n : j < length cs = omega arith in
          rw (get_or-set_other es i j (element_of v) zero o, get_or-append cs (c ∷ []) nil j n) (h j n)

      at : (j < i → ⊥) → FoundAs records (kind_at kinds j) (value_of (get_or (set es i (element_of v)) j zero)) (get_or (cs ++ c ∷ []) j nil)
      at g =
          let q : j ≡ i = omega (arith, m, length-append cs (c ∷ []), g) in
          rw (q, get_or-set_same es i (element_of v) zero l, get_or_at cs c [] nil i e) k

-- ---- the fold

-- after k columns of a part, where `taken` elements are taken: what was gathered before the part is gathered on
pub record Taking (s : Sheet) (covers : List Cover) (was : List Element) (first k taken : ℕ) (found : List Element) (whole : Trace) (j : ℕ) (left : Trace) : Type 0 where
  pub now : Trace
  pub begins : BeginsIn s taken (drop k covers) now j left
  pub on : (start : Trace) → Gathering s start first whole was → Gathering s start taken now found

module _ (s : Sheet) (covers : List Cover) {was : List Element} {first k taken j : ℕ} {found : List Element} {whole left : Trace} (l : k < length covers)
    (g : Taking s covers was first k taken found whole j left) where
  abbrev pub at : First (given_sheet s.run s.wanted.now s.records) s.run.chars.now taken (cover_at covers k) (drop (k + 1) covers) g.now j left
  at = begins_at covers k g.begins l

  abbrev pub c : Cover
  c = cover_at covers k

  pub inside : c.at + columns_in c.word ≤ length s.bytes.now
  inside = let r = at.is.room in omega (arith, s.room)

  -- the bytes of the columns
  abbrev pub part : List ℕ
  part = take (columns_in c.word) (drop c.at s.bytes.now)

  here : columns s.records.width at.placement s.bytes.now ≡ part
  here = rw (at.is.at, at.is.width) refl

  before : {start : Trace} (y : Gathering s start taken g.now found) → joined y.cs (gathered_of s (put at.placement at.after)) ≡ gathered_of s start
  before y = ap (λ t. joined y.cs (gathered_of s t)) (sym at.is_put) ∙ y.same

  -- a literal is passed over
  pub literal_passed : leb literal_kind (kind_in c.word) ≡ true → Taking s covers was first (k + 1) taken found whole j left
  unfolding gathered
  literal_passed e =
      record {
        now = at.after;
        begins = subst (λ (n : ℕ). BeginsIn s n (drop (k + 1) covers) at.after j left) (ap (λ n. taken + n) (takes_none c.word e) ∙ omega arith) at.rest;
        on = λ start h. go (g.on start h);
      }
    where
      go : {start : Trace} → Gathering s start taken g.now found → Gathering s start taken at.after found
      go y = let a = as_literal s.run.chars.now (kinds_of s.wanted.now) taken at.placement.width c.word at.placement.what e at.is.what in record { cs = y.cs; many = y.many; so_far = y.so_far; same = rw a.is at (before y) }

  -- a field
  module _ (e : leb literal_kind (kind_in c.word) ≡ false) where
    abbrev d : ℕ
    d = detail_in c.word

    pub the_field : FieldAt (kinds_of s.wanted.now) taken at.placement.width c.word at.placement.what
    the_field = as_field s.run.chars.now (kinds_of s.wanted.now) taken at.placement.width c.word at.placement.what e at.is.what

    pub known : taken < length s.wanted.now
    known = rw length-map at the_field.suited.known

    -- the kind wanted
    abbrev pub kind_wanted : Kind
    kind_wanted = kind_of (value_of (get_or s.wanted.now taken (record { value = zero_value })))

    wanted_is : kind_at (kinds_of s.wanted.now) taken ≡ kind_wanted
    wanted_is = get_or-map (λ x. kind_of (value_of x)) s.wanted.now taken (record { value = zero_value })

    abbrev given : Given
    given = field_gives the_field.f kind_wanted part

    found_here : GivenAs s.bytes.now kind_wanted given (found_in kind_wanted d part c.at)
    found_here = found_as s.bytes.now c.at (columns_in c.word) inside at.is.few kind_wanted d the_field.f (rw wanted_is at the_field.suited.suited) the_field.places

    field_before : {start : Trace} (y : Gathering s start taken g.now found) → joined y.cs (element_gathered taken given (gathered_of s at.after)) ≡ gathered_of s start
    unfolding gathered
    field_before y = rw (the_field.is, here, wanted_is) at (before y)

    pub not_found : found_in kind_wanted d part c.at ≡ None → (start : Trace) → Gathering s start first whole was → gathered_of s start ≡ refused (FieldText taken)
    not_found n start h = sym (field_before (g.on start h)) ∙ go given found_here
      where
        go : (q : Given) → GivenAs s.bytes.now kind_wanted q (found_in kind_wanted d part c.at) → joined (g.on start h).cs (element_gathered taken q (gathered_of s at.after)) ≡ refused (FieldText taken)
        go (gives b) i = let a = i.1 in let z : ⊥ = cc in absurd z
        go nothing i = refl

    pub field_found : (v : Value) → found_in kind_wanted d part c.at ≡ Some v → length s.wanted.now ≤ length found → Taking s covers was first (k + 1) (taken + 1) (set found taken (element_of v)) whole j left
    field_found v n long =
        record {
          now = at.after;
          begins = subst (λ (n : ℕ). BeginsIn s (taken + n) (drop (k + 1) covers) at.after j left) (takes_one c.word e) at.rest;
          on = λ start h. go (g.on start h) given found_here (field_before (g.on start h));
        }
      where
        go : {start : Trace} (y : Gathering s start taken g.now found) (q : Given) → GivenAs s.bytes.now kind_wanted q (found_in kind_wanted d part c.at)
            → joined y.cs (element_gathered taken q (gathered_of s at.after)) ≡ gathered_of s start → Gathering s start (taken + 1) at.after (set found taken (element_of v))
        go y (gives b) h m =
            let same : h.0 ≡ v = let a = h.1 in cc in
            let f : FoundAs s.bytes.now (kind_at (kinds_of s.wanted.now) taken) v b = rw wanted_is (subst (λ z. FoundAs s.bytes.now kind_wanted z b) same h.2) in
            record {
              cs = y.cs ++ b ∷ [];
              many = length-append y.cs (b ∷ []) ∙ omega (arith, y.many);
              so_far = found_more s.bytes.now (kinds_of s.wanted.now) found y.cs y.so_far taken y.many (omega (arith, known)) v b f;
              same = joined_more y.cs b (gathered_of s at.after) ∙ m;
            }
        go y nothing h m = let z : ⊥ = cc in absurd z

-- after the last columns
pub all_taken : (s : Sheet) (covers : List Cover) {was : List Element} {first k taken j : ℕ} {found : List Element} {whole left : Trace} → length covers ≤ k
    → Taking s covers was first k taken found whole j left → (start : Trace) → Gathering s start first whole was → Gathering s start j left found
all_taken s covers {k = k} {found = found} {left = left} l g start h =
    let e = begins_end covers k g.begins l in
    subst (λ (i : ℕ). Gathering s start i left found) e.1 (subst (λ t. Gathering s start _ t found) e.0 (g.on start h))

-- ---- where the walk ends, or is refused

module _ (s : Sheet) {whole left : Trace} {taken : ℕ} {found : List Element} (y : Gathering s whole taken left found) where
  pub is_refused : {why : Refusal} → left ≡ stopped why → gathered_of s whole ≡ refused why
  unfolding gathered
  is_refused e = sym y.same ∙ ap (λ t. joined y.cs (gathered_of s t)) e

  pub is_accepted : {n : ℕ} → left ≡ done n → gathered_of s whole ≡ accepted y.cs n
  unfolding gathered
  is_accepted {n} e = sym y.same ∙ ap (λ t. joined y.cs (gathered_of s t)) e ∙ ap (λ (z : List Content). accepted z n) (append-nil y.cs)

-- ---- what the pass then says

-- nothing is accepted where it is refused
pub none_accepted : {P : Type 0} {g : Gathered} {why : Refusal} {cs : List Content} {n : ℕ} → g ≡ refused why → g ≡ accepted cs n → P
none_accepted e f = let q = sym e ∙ f in let z : ◌≡◌ {A = ℕ} 0 1 = cc in absurd (omega arith)

pub same_accepted : {g : Gathered} {cs ds : List Content} {n m : ℕ} → g ≡ accepted cs n → g ≡ accepted ds m → cs ≡ ds
same_accepted e f = let q = sym e ∙ f in cc

-- ---- the whole walk, part by part

-- what was gathered before what is left of the walk
pub record Reading (s : Sheet) (w : Walk) (found : List Element) : Type 0 where
  pub goes_by : GoesBy w s.run s.wanted.now s.records
  pub gathering : Gathering s (walk_of s) w.state.taken (left_of w) found

took_none : (s : Sheet) {whole left : Trace} {taken : ℕ} {found : List Element} (o : Option ℕ) → ((i : ℕ) → o ≡ Some i → ⊥) → TookAs s whole taken left found o → Gathering s whole taken left found
took_none s None u h = h
took_none s (Some i) u h = absurd (u i refl)

module _ (s : Sheet) {w : Walk} {was : List Element} (g : Reading s w was) {v : Walk} {p : Placed} {covers : List Cover} (as_placed : PlacedAs w v p covers) where
  abbrev pub placed_part : PlacedIn s.run s.wanted.now s.records w.state.taken (left_of w) v p covers
  placed_part = placed_in g.goes_by as_placed

  module _ {first : ℕ} (f : first ≡ w.state.taken) where
    pub part_begins : BeginsIn s first (take p.count covers) (left_of w) placed_part.taken placed_part.left
    part_begins = rw f placed_part.begins

    module _ (found : List Element) (o : Option ℕ) (took : (start : Trace) (taken : ℕ) (whole left : Trace) → BeginsIn s first (take p.count covers) whole taken left → Gathering s start first whole was → TookAs s start taken left found o) where
      took_so : TookAs s (walk_of s) placed_part.taken placed_part.left found o
      took_so = took (walk_of s) placed_part.taken (left_of w) placed_part.left part_begins (rw f g.gathering)

      pub part_unread : {i : ℕ} → o ≡ Some i → gathered_of s (walk_of s) ≡ refused (FieldText i)
      part_unread e = subst (TookAs s (walk_of s) placed_part.taken placed_part.left found) e took_so

      module _ (none : (i : ℕ) → o ≡ Some i → ⊥) where
        pub part_read : Gathering s (walk_of s) placed_part.taken placed_part.left found
        part_read = took_none s o none took_so

        pub part_goes_on : p.stop ≡ stop.Full → Reading s v found
        part_goes_on e =
            let n = (stops_full placed_part e).0 in
            record { goes_by = n.goes_by; gathering = subst (λ (i : ℕ). Gathering s (walk_of s) i (left_of v) found) (sym n.takes_so_many) (subst (λ t. Gathering s (walk_of s) placed_part.taken t found) n.is_left part_read) }
