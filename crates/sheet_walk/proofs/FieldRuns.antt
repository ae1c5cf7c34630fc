-- Fields of the walk that follow each other.
-- Assumes nothing.
use Rattle.std.proofs.Common.{◌≡◌, refl, sym, ap, subst, ◌∙◌, List, [], ◌∷◌, ◌++◌, ℕ, ◌+◌, ◌-◌, ◌*◌, ◌<◌, ◌≤◌, arith, length, take, get_or}
use Rattle.std.proofs.lemmas.List.{length-map, get_or_default, take_more_set}
use borrow.Author.Tests.{le-leb}
use native.Mathlib.Nat.{add-zero}
use lib.ListN.{set, get_or-map}
use Rattle.format_items.specs.Met.{Met}
use Rattle.format_items.specs.MetRanges.{MetWithin}
use Rattle.format_words.specs.Words.{met_in}
use Rattle.format_words.specs.Packing.{kind_in, columns_in}
use Rattle.format_words.specs.declared.packed.Packed.{Packed}
use Rattle.list_elements.specs.Elements.{Kind, integer, kind_of, value_of}
use Rattle.list_elements.specs.declared.Element.{Element}
use Rattle.sheet_walk.specs.declared.State.{State}
use Rattle.sheet_walk.specs.declared.Cover.{Cover}
use Rattle.sheet_walk.specs.declared.walk.Walk.{Walk}
use Rattle.sheet_walk.specs.Steps.{Placement, covers, to_column, element, field_width, step}
use Rattle.sheet_walk.specs.Walk.{Sheet, put, after}
use Rattle.sheet_walk.specs.Laid.{offset_of}
use Rattle.sheet_walk.specs.Promises.{Inside}
use Rattle.sheet_walk.specs.Given.{items_of, kind_number, takes, fields_of}
use Rattle.sheet_walk.specs.Followed.{sheet_of, left_of, SameSheet, CoverIs, Begins, turns_left, turns_of, FieldsAs}
use Rattle.sheet_walk.proofs.FieldSteps.{step_is}
use Rattle.sheet_walk.proofs.Keeping.{FieldOfKind, field_of_kind, field_takes}
use Rattle.sheet_walk.proofs.Turns.{walk_at, item_at, item_turn, item_less}
use Rattle.sheet_walk.proofs.Following.{within_at, left_is, turns_are, field_is_step}
use Rattle.sheet_walk.proofs.Parts.{begins_more}
use Rattle.sheet_walk.proofs.Windows.{inside_room}

module _ (w : Walk) where
  abbrev h : Sheet
  h = sheet_of w

  abbrev t : List ℕ
  t = w.run.chars.now

  -- where the walk stands after k fields that cover so many columns
  abbrev state_after : ℕ → ℕ → State
  state_after k columns = to_column w.state (w.state.column + columns) (w.state.taken + k)

  -- k fields, covering so many columns, were placed
  pub record FieldRun (cs : List Cover) (k columns : ℕ) : Type 0 where
    pub words : k ≤ length w.run.words.now - w.index
    pub elements : w.state.taken + k ≤ length w.elements.now
    pub room : w.state.column + columns ≤ w.records.width + 1
    pub begins : Begins h t w.state.taken (take k cs) (left_of w) (w.state.taken + k) (walk_at h (w.index + k) (state_after k columns))
    pub no_more : turns_left h (w.index + k) (state_after k columns) ≤ turns_of w

  pub no_field : (cs : List Cover) → FieldRun cs 0 0
  no_field cs =
      record {
        words = omega arith;
        elements = omega (arith, w.few);
        room = omega (arith, w.to);
        begins = rw (add-zero w.index, add-zero w.state.column, add-zero w.state.taken) Begins.none;
        no_more = rw (add-zero w.index, add-zero w.state.taken) (omega arith);
      }

  module _ {cs : List Cover} {k columns : ℕ} (r : FieldRun cs k columns) (d p : Packed) (x : Element)
      (in_words : w.index + k < length w.run.words.now) (is_word : get_or w.run.words.now (w.index + k) d ≡ p)
      (in_elements : w.state.taken + k < length w.elements.now) (is_element : get_or w.elements.now (w.state.taken + k) x ≡ x)
      (same_kind : kind_in p ≡ kind_number (kind_of (value_of x))) (fits : w.state.column + columns + columns_in p ≤ w.records.width + 1) where
    abbrev s : State
    s = state_after k columns

    abbrev kind : Kind
    kind = kind_of (value_of x)

    the_field : FieldOfKind t p kind
    the_field = field_of_kind t p kind same_kind

    inside : w.index + k < length h.items
    inside = rw length-map in_words

    item_is : item_at h (w.index + k) ≡ Met.field the_field.f
    item_is =
        get_or_default (items_of w.run) (w.index + k) Met.slash (met_in t d) inside ∙ get_or-map (met_in t) w.run.words.now (w.index + k) d ∙ ap (met_in t) is_word ∙ the_field.is

    -- its placement
    abbrev p_of : Placement
    p_of = record { what = element s.taken the_field.f; row = s.row; column = s.column; width = field_width the_field.f kind; settings = s.settings }

    wide : columns_in p ≡ field_width the_field.f kind
    wide = the_field.keeps.wide

    abbrev next : State
    next = to_column w.state (s.column + field_width the_field.f kind) (s.taken + 1)

    covers_it : step h.kinds h.records (Met.field the_field.f) s ≡ covers p_of next
    covers_it =
        let l : s.column + field_width the_field.f kind ≤ w.records.width + 1 = omega (arith, wide, fits) in
        sym (field_is_step h.kinds h.records s the_field.f)
        ∙ step_is h.records s w.elements.now the_field.f x in_elements is_element
        ∙ rw (the_field.suited, le-leb _ _ l) refl

    is_put : walk_at h (w.index + k) s ≡ put p_of (walk_at h (w.index + k + 1) next)
    is_put =
        item_turn h (w.index + k) s inside
        ∙ ap (λ y. after (step h.kinds h.records y s) s (walk_at h (w.index + k + 1))) item_is
        ∙ ap (λ st. after st s (walk_at h (w.index + k + 1))) covers_it

    kind_is : get_or h.kinds s.taken integer ≡ kind
    kind_is =
        get_or_default h.kinds s.taken integer kind (rw length-map in_elements)
        ∙ get_or-map (λ y. kind_of (value_of y)) w.elements.now s.taken x
        ∙ ap (λ y. kind_of (value_of y)) is_element

    cover_is : CoverIs h t s.taken (record { at = w.state.row * w.records.width + (w.state.column - 1) + columns; word = p; settings = w.state.settings }) p_of
    cover_is =
        let i : Inside w.records.width w.records.count p_of = record { in-record = w.in_record; from = omega (arith, w.from); to = omega (arith, wide, fits) } in
        let at : w.state.row * w.records.width + (w.state.column - 1) + columns ≡ offset_of w.records.width p_of = omega (arith, w.from) in
        record {
          at = at;
          width = wide;
          settings = refl;
          what = (
            refl,
            record { known = rw length-map in_elements; suited = rw kind_is the_field.suited; wide = rw kind_is refl },
            subst MetWithin item_is (within_at h.items (w.index + k) w.run.within),
            the_field.keeps,
          );
          room = rw (at, wide) (inside_room w.records.width w.records.count p_of i);
          few = omega (arith, wide, fits, w.records.narrow, w.from);
        }

    pub one_more : k < length cs → FieldRun (set cs k (record { at = w.state.row * w.records.width + (w.state.column - 1) + columns; word = p; settings = w.state.settings })) (k + 1) (columns + columns_in p)
    one_more l =
        let c : Cover = record { at = w.state.row * w.records.width + (w.state.column - 1) + columns; word = p; settings = w.state.settings } in
        let f : next.taken ≡ s.taken + fields_of (item_at h (w.index + k)) = rw item_is refl in
        let col : w.state.column + (columns + columns_in p) ≡ s.column + field_width the_field.f kind = omega (arith, wide) in
        let many : w.state.taken + (k + 1) ≡ s.taken + 1 = omega arith in
        let e : state_after (k + 1) (columns + columns_in p) ≡ next = rw (col, many) refl in
        let i : w.index + (k + 1) ≡ w.index + k + 1 = omega arith in
        let b : Begins h t w.state.taken (take k cs ++ c ∷ []) (left_of w) (s.taken + takes p) (walk_at h (w.index + k + 1) next) =
        begins_more (subst (λ z. Begins h t w.state.taken (take k cs) (left_of w) s.taken z) is_put r.begins) cover_is in
        record {
          words = omega (arith, in_words);
          elements = omega (arith, in_elements);
          room = omega (arith, fits);
          begins = rw (take_more_set cs k c l, i, e, many) (subst (λ n. Begins h t w.state.taken (take k cs ++ c ∷ []) (left_of w) (s.taken + n) (walk_at h (w.index + k + 1) next)) (field_takes the_field.keeps) b);
          no_more = rw (i, many) (omega (arith, item_less h (w.index + k) s inside next f, r.no_more));
        }

  -- the walk after them
  pub runs_to : {cs : List Cover} {k columns : ℕ} → FieldRun cs k columns → (v : Walk) → SameSheet w v → v.index ≡ w.index + k → v.state ≡ state_after k columns → FieldsAs w v (take k cs)
  runs_to {cs} {k} {columns} r v same i e =
      let l : walk_at h (w.index + k) (state_after k columns) ≡ left_of v = sym (left_is w v same i ∙ ap (walk_at h (w.index + k)) e) in
      let m : v.state.taken ≡ w.state.taken + k = ap (λ z. z.taken) e in
      record {
        same = same;
        begins = subst (λ j. Begins h t w.state.taken (take k cs) (left_of w) j (left_of v)) (sym m) (subst (λ z. Begins h t w.state.taken (take k cs) (left_of w) (w.state.taken + k) z) l r.begins);
        no_more = rw (turns_are w v same i, m) r.no_more;
      }
