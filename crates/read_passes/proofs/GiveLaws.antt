-- The list made of the elements read: what holds at each turn.
-- Assumes nothing.
use mathlib.Core.Path.{◌≡◌, refl, sym, ap, subst, ◌∙◌}
use mathlib.Core.List.{List, [], ◌∷◌, ◌++◌, map}
use Prim.Native.Nat.{ℕ, ◌+◌, ◌<◌, ◌≤◌}
use native.Mathlib.Nat.{zero-add}
use native.Mathlib.Numerals.{add-one}
use native.Mathlib.Omega.{arith}
use lib.IntN.{pos}
use lib.ListN.{length, get_or, set, take, drop, length-append, length-map, take-append-drop, get_or-map}
use lib.Seq.{take_all, take-suc, ext_get_or}
use Rattle.buffer.specs.Splice.{splice}
use Rattle.buffer.proofs.Splicing.{splice_then, splice_nothing}
use Rattle.list_elements.specs.Elements.{Kind, integer, text_length, kind_of, value_of, zero_value, empty_list, kinds_of}
use Rattle.list_elements.specs.Contents as content
use Rattle.list_elements.specs.Contents.{Content, content_kind, bytes_of, texts_of, laid_texts, value_from, values_from, element_of, list_of}
use Rattle.list_elements.specs.declared.Text.{Text}
use Rattle.list_elements.specs.declared.Value.{Value}
use Rattle.list_elements.specs.declared.Value.TheVariants as value
use Rattle.list_elements.specs.declared.Element.{Element}
use Rattle.list_elements.specs.declared.List as carried
use Rattle.list_elements.proofs.ContentLaws.{text_length_lem, texts_length_lem, texts_append, texts_one, values_length, value_at_lem}
use Rattle.list_elements.proofs.Placing.{Placing, placing_none, placing_more, placing_list}
use Rattle.read_passes.specs.Passes.{content_found, field_inside, FoundAs, Found}

abbrev pub zero_content : Content
zero_content = content.integer (pos 0)

abbrev pub zero_element : Element
zero_element = record { value = zero_value }

module _ {records : List ℕ} {wanted found : List Element} {room : ℕ} {cs : List Content} (h : Found records wanted found room cs) where
  kinds_are : map content_kind cs ≡ kinds_of wanted
  kinds_are =
      ext_get_or integer (map content_kind cs) (kinds_of wanted) (length-map cs content_kind ∙ h.many ∙ sym (length-map wanted (λ e. kind_of (value_of e))))
      (λ j l.
      let g : j < length cs = omega (arith, length-map cs content_kind) in
      get_or-map content_kind cs j zero_content ∙ (h.each j g).of_kind)

  -- the texts have room
  texts_room : length (texts_of cs) ≤ room
  texts_room = rw (texts_length_lem cs, kinds_are) h.fits

  some_room : (i : ℕ) → length (texts_of (take i cs)) ≤ room
  some_room i =
      let e : texts_of cs ≡ texts_of (take i cs) ++ texts_of (drop i cs) = ap texts_of (sym (take-append-drop i cs)) ∙ texts_append (take i cs) (drop i cs) in
      omega (arith, texts_room, ap length e, length-append (texts_of (take i cs)) (texts_of (drop i cs)))

  module _ {i : ℕ} (l : i < length wanted) where
    abbrev next : Content
    next = get_or cs i zero_content

    -- the length of the text wanted
    abbrev len : ℕ
    len = text_length (kind_of (value_of (get_or wanted i zero_element)))

    in-contents : i < length cs
    in-contents = omega (arith, h.many)

    texts_more : texts_of (take (i + 1) cs) ≡ texts_of (take i cs) ++ bytes_of next
    texts_more = rw (add-one i, take-suc cs i zero_content in-contents) (texts_append (take i cs) (next ∷ []) ∙ ap (λ (z : List ℕ). texts_of (take i cs) ++ z) (texts_one next))

    -- the next element
    next_found : FoundAs records (kind_of (value_of (get_or wanted i zero_element))) (value_of (get_or found i zero_element)) next
    next_found = subst (λ (z : Kind). FoundAs records z (value_of (get_or found i zero_element)) next) (get_or-map (λ e. kind_of (value_of e)) wanted i zero_element) (h.each i in-contents)

    pub next_is : content_found records len (value_of (get_or found i zero_element)) ≡ next
    next_is = next_found.is

    pub next_inside : field_inside records (value_of (get_or found i zero_element))
    next_inside = next_found.inside

    next_text : length (bytes_of next) ≡ len
    next_text = text_length_lem next ∙ ap text_length next_found.of_kind

-- ---- the invariant

-- of the elements cs the first i stand in the list and the area, and the next text starts at `at`
pub record Giving (cs : List Content) (area₀ area : List ℕ) (es : List Element) (at i : ℕ) : Type 0 where
  pub bound : i ≤ length cs
  pub placed : Placing (values_from 0 cs) es i
  pub bytes : area ≡ splice area₀ 0 (texts_of (take i cs))
  pub start : at ≡ length (texts_of (take i cs))

pub giving_none : {cs : List Content} {area : List ℕ} → Giving cs area area empty_list.elements 0 0
unfolding texts_of
giving_none {cs} {area} = record { bound = omega arith; placed = placing_none; bytes = sym (splice_nothing area 0); start = refl }

module _ {records : List ℕ} {wanted found : List Element} {cs : List Content} {area₀ area : List ℕ} {es : List Element} {at i : ℕ}
    (h : Found records wanted found (length area₀) cs) (g : Giving cs area₀ area es at i) where
  -- the next text has room
  pub next_room : i < length wanted → at + text_length (kind_of (value_of (get_or wanted i zero_element))) ≤ length area₀
  next_room l =
      let m = ap length (texts_more h l) ∙ length-append (texts_of (take i cs)) (bytes_of (get_or cs i zero_content)) in
      omega (arith, g.start, some_room h (i + 1), m, next_text h l)

  pub giving_more : {v : Value} {area₁ : List ℕ} {len : ℕ} → i < length wanted → v ≡ value_from at (get_or cs i zero_content) → area₁ ≡ splice area at (bytes_of (get_or cs i zero_content))
      → len ≡ text_length (kind_of (value_of (get_or wanted i zero_element))) → Giving cs area₀ area₁ (set es i (element_of v)) (at + len) (i + 1)
  giving_more {v} {area₁} {len} l e b k =
      let c = get_or cs i zero_content in
      let m : i < length cs = omega (arith, h.many) in
      let x : v ≡ get_or (values_from 0 cs) i zero_value = e ∙ ap (λ (z : ℕ). value_from z c) (g.start ∙ sym (zero-add _)) ∙ sym (value_at_lem 0 cs i zero_value zero_content m) in
      let t = texts_more h l in
      record {
        bound = omega arith;
        placed = placing_more g.placed (omega (arith, values_length 0 cs)) (omega (arith, h.few)) x;
        bytes = rw t (splice_then area₀ area area₁ 0 at (texts_of (take i cs)) (bytes_of c) g.bytes b (g.start ∙ sym (zero-add _)) (omega arith));
        start = rw (t, length-append (texts_of (take i cs)) (bytes_of c)) (omega (arith, g.start, k, next_text h l));
      }

  pub giving_list : length wanted ≤ i → ◌≡◌ {A = carried.List} (record { elements = es; count = i }) (list_of (values_from 0 cs))
  giving_list l = placing_list g.placed (omega (arith, values_length 0 cs, h.many, g.bound))

  pub giving_texts : length wanted ≤ i → area ≡ laid_texts area₀ cs
  unfolding laid_texts
  giving_texts l = g.bytes ∙ rw (take_all i cs (omega (arith, h.many)))

-- ---- one value

pub other_value : (records : List ℕ) (at m : ℕ) (v : Value) → ((t : Text) → v ≡ value.Text t → ⊥) → (v ≡ value_from at (content_found records m v)) × (bytes_of (content_found records m v) ≡ [])
other_value records at m (value.Integer n) u = (refl, refl)
other_value records at m (value.Decimal d) u = (refl, refl)
other_value records at m (value.Logical b) u = (refl, refl)
other_value records at m (value.Text t) u = absurd (u t refl)
