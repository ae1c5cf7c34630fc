-- The check of the values of a part of the walk.
-- Assumes nothing.
use Rattle.std.proofs.Common.{◌≡◌, refl, sym, ap, subst, ◌∙◌, Bool, true, false, List, ℕ, ◌+◌, ◌<◌, ◌≤◌, arith, length, take, drop, get_or}
use Rattle.std.specs.Prelude.{cond, Option, Some, None, IfSome}
use Rattle.std.specs.Bool.{then_some}
use Rattle.buffer.proofs.Tests.{no_way}
use Rattle.std.proofs.lemmas.List.{length-map}
use Rattle.std.proofs.lemmas.List.Elements.{All-get_or}
use lib.Dec.{leb}
use lib.ListN.{get_or-map}
use Rattle.format_items.specs.Items.{Field}
use Rattle.format_items.specs.Met.{Met}
use Rattle.format_items.specs.MetRanges.{MetWithin}
use Rattle.list_elements.specs.Elements.{Kind, integer, text_length, zero_value, value_of, kind_of, kinds_of}
use Rattle.list_elements.proofs.WithinLaws.{within_text}
use Rattle.list_elements.specs.declared.Value.TheVariants as value
use Rattle.list_elements.specs.Limits.{within_limits}
use Rattle.list_elements.specs.declared.Value.{Value}
use Rattle.sheet_walk.specs.Steps.{What, element, literal, Placement, is_text, suits, field_width}
use Rattle.sheet_walk.specs.Walk.{Trace, put}
use Rattle.format_words.specs.Packing.{literal_kind, kind_in, detail_in}
use Rattle.format_words.specs.declared.packed.Packed.{Packed}
use Rattle.sheet_walk.specs.Given.{given_sheet}
use Rattle.sheet_walk.specs.declared.Cover.{Cover}
use Rattle.sheet_walk.specs.declared.Refusal.TheVariants.{TooLarge}
use Rattle.sheet_walk.specs.declared.walk.Walk.{Walk}
use Rattle.sheet_walk.specs.declared.Refusal.{Refusal}
use Rattle.sheet_walk.specs.declared.placing.Placed.{Placed}
use Rattle.sheet_walk.specs.declared.placing.Stop.TheVariants as stop
use Rattle.sheet_walk.specs.Followed.{GoesBy, left_of, PlacedAs}
use Rattle.sheet_walk.proofs.Parts.{First, PlacedIn, placed_in, stops_ends, stops_refused, stops_full}
use Rattle.sheet_walk.proofs.OneByOne.{cover_at, begins_at, begins_end, FieldAt, as_field, as_literal, takes_one, takes_none}
use Rattle.write_passes.specs.declared.Sheet.{Sheet}
use Rattle.write_passes.specs.Placed.{field_too_large, value_at, Judged, accepted, refused, judged}
use Rattle.write_passes.specs.Passes.{FieldOf, values_of, walk_of, BeginsIn, CheckedTo, WholeIn}

module _ (s : Sheet) where
  -- the value of an element
  abbrev pub element_value : ℕ → Value
  element_value i = value_of (get_or s.list.elements.now i (record { value = zero_value }))

  -- ---- a field of the next element

  module _ {next w : ℕ} {k : Packed} {what : What} (a : FieldAt (kinds_of s.list.elements.now) next w k what) where
    pub in_list : next < length s.list.elements.now
    in_list = rw length-map at a.suited.known

    pub is_good : within_limits s.list.area.now (element_value next) ≡ true
    is_good = All-get_or (λ x. within_limits s.list.area.now (value_of x) ≡ true) s.list.elements.now next (record { value = zero_value }) in_list s.list.within

    pub value_is : value_at (values_of s) next ≡ element_value next
    value_is = get_or-map value_of s.list.elements.now next (record { value = zero_value })

    pub field_of : FieldOf (element_value next) (detail_in k) a.f
    field_of =
        record {
          suited = ap (suits a.f) (sym (get_or-map (λ x. kind_of (value_of x)) s.list.elements.now next (record { value = zero_value }))) ∙ a.suited.suited;
          places = a.places;
          within = a.within;
        }

    -- it has a column at least
    pub some_columns : 1 ≤ w
    some_columns = rw a.suited.wide (go a.f (element_value next) is_good a.within field_of.suited kind_is)
      where
        wanted : Kind
        wanted = get_or (kinds_of s.list.elements.now) next integer

        kind_is : wanted ≡ kind_of (element_value next)
        kind_is = get_or-map (λ x. kind_of (value_of x)) s.list.elements.now next (record { value = zero_value })

        at_text : (v : Value) → within_limits s.list.area.now v ≡ true → is_text (kind_of v) ≡ true → 1 ≤ text_length (kind_of v)
        at_text (value.Integer n) g u = no_way u
        at_text (value.Decimal x) g u = no_way u
        at_text (value.Logical b) g u = no_way u
        at_text (value.Text t) g u = (within_text s.list.area.now t g).low

        go : (f : Field ℕ) (v : Value) → within_limits s.list.area.now v ≡ true → MetWithin (Met.field f) → suits f (kind_of v) ≡ true → wanted ≡ kind_of v → 1 ≤ field_width f wanted
        go (Field.I u) v g m e q = m.0
        go (Field.F u d) v g m e q = m.0.0
        go (Field.L u) v g m e q = m.0
        go Field.A v g m e q = rw q (at_text v g e)
        go (Field.Aw u) v g m e q = m.0

  -- ---- judged at a placement

  module _ (p : Placement) (after : Trace) where
    pub judged_field : {i : ℕ} {f : Field ℕ} → p.what ≡ element i f → judged (values_of s) (put p after) ≡ cond (field_too_large f (value_at (values_of s) i)) (refused (TooLarge i)) (judged (values_of s) after)
    unfolding judged
    judged_field e = rw e refl

    pub judged_literal : {cs : List ℕ} → p.what ≡ literal cs → judged (values_of s) (put p after) ≡ judged (values_of s) after
    unfolding judged
    judged_literal e = rw e refl

-- ---- the fold

-- after k columns, where `taken` elements are taken: what is left of the part is judged as the whole part
pub record Looked (s : Sheet) (covers : List Cover) (k taken : ℕ) (whole : Trace) (j : ℕ) (left : Trace) : Type 0 where
  pub now : Trace
  pub begins : BeginsIn s taken (drop k covers) now j left
  pub same : judged (values_of s) now ≡ judged (values_of s) whole

module _ (s : Sheet) (covers : List Cover) {k taken j : ℕ} {whole left : Trace} (l : k < length covers) (g : Looked s covers k taken whole j left) where
  abbrev pub at : First (given_sheet s.run s.list.elements.now s.records) s.run.chars.now taken (cover_at covers k) (drop (k + 1) covers) g.now j left
  at = begins_at covers k g.begins l

  pub looked_field : leb literal_kind (kind_in (cover_at covers k).word) ≡ false → FieldAt (kinds_of s.list.elements.now) taken at.placement.width (cover_at covers k).word at.placement.what
  looked_field e = as_field s.run.chars.now (kinds_of s.list.elements.now) taken at.placement.width (cover_at covers k).word at.placement.what e at.is.what

  pub looked_large : (e : leb literal_kind (kind_in (cover_at covers k).word) ≡ false) → field_too_large (looked_field e).f (element_value s taken) ≡ true → judged (values_of s) whole ≡ refused (TooLarge taken)
  looked_large e b =
      let a = looked_field e in
      sym g.same ∙ ap (judged (values_of s)) at.is_put ∙ judged_field s at.placement at.after a.is ∙ rw (value_is s a, b) refl

  pub looked_small : (e : leb literal_kind (kind_in (cover_at covers k).word) ≡ false) → field_too_large (looked_field e).f (element_value s taken) ≡ false → Looked s covers (k + 1) (taken + 1) whole j left
  looked_small e b =
      let a = looked_field e in
      record {
        now = at.after;
        begins = subst (λ (n : ℕ). BeginsIn s (taken + n) (drop (k + 1) covers) at.after j left) (takes_one (cover_at covers k).word e) at.rest;
        same = sym (ap (judged (values_of s)) at.is_put ∙ judged_field s at.placement at.after a.is ∙ rw (value_is s a, b) refl) ∙ g.same;
      }

  pub looked_literal : leb literal_kind (kind_in (cover_at covers k).word) ≡ true → Looked s covers (k + 1) taken whole j left
  looked_literal e =
      let a = as_literal s.run.chars.now (kinds_of s.list.elements.now) taken at.placement.width (cover_at covers k).word at.placement.what e at.is.what in
      record {
        now = at.after;
        begins = subst (λ (n : ℕ). BeginsIn s n (drop (k + 1) covers) at.after j left) (ap (λ n. taken + n) (takes_none (cover_at covers k).word e) ∙ omega arith) at.rest;
        same = sym (ap (judged (values_of s)) at.is_put ∙ judged_literal s at.placement at.after a.is) ∙ g.same;
      }

pub looked_all : (s : Sheet) (covers : List Cover) {k taken j : ℕ} {whole left : Trace} → length covers ≤ k → Looked s covers k taken whole j left → judged (values_of s) whole ≡ judged (values_of s) left
looked_all s covers {k} l g = sym g.same ∙ ap (judged (values_of s)) (begins_end covers k g.begins l).0

-- ---- the whole walk, part by part

-- what is left of the walk is judged as the whole; nothing was placed yet where `at_once` holds
pub record Checking (s : Sheet) (w : Walk) (at_once : Bool) : Type 0 where
  pub goes_by : GoesBy w s.run s.list.elements.now s.records
  pub same : judged (values_of s) (left_of w) ≡ judged (values_of s) (walk_of s)
  pub whole : at_once ≡ true → (left_of w ≡ walk_of s) × (w.state.taken ≡ 0)

checked_none : {whole left : Judged} (o : Option ℕ) → ((i : ℕ) → o ≡ Some i → ⊥) → CheckedTo o whole left → whole ≡ left
checked_none None u e = e
checked_none (Some i) u e = absurd (u i refl)

module _ (s : Sheet) {w : Walk} {at_once : Bool} (g : Checking s w at_once) {v : Walk} {p : Placed} {covers : List Cover} (as_placed : PlacedAs w v p covers) where
  abbrev pub part : PlacedIn s.run s.list.elements.now s.records w.state.taken (left_of w) v p covers
  part = placed_in g.goes_by as_placed

  -- the part that was placed, which `first` elements come before
  module _ {first : ℕ} (f : first ≡ w.state.taken) where
    pub part_begins : BeginsIn s first (take p.count covers) (left_of w) part.taken part.left
    part_begins = rw f part.begins

    module _ {o : Option ℕ} (looked : (taken : ℕ) (whole left : Trace) → BeginsIn s first (take p.count covers) whole taken left → CheckedTo o (judged (values_of s) whole) (judged (values_of s) left)) where
      pub part_large : {i : ℕ} → o ≡ Some i → judged (values_of s) (walk_of s) ≡ refused (TooLarge i)
      part_large e = sym g.same ∙ (rw e at (looked part.taken (left_of w) part.left part_begins))

      module _ (none : (i : ℕ) → o ≡ Some i → ⊥) where
        part_small : judged (values_of s) (walk_of s) ≡ judged (values_of s) part.left
        part_small = sym g.same ∙ checked_none o none (looked part.taken (left_of w) part.left part_begins)

        pub part_ends : {n : ℕ} → p.stop ≡ stop.Ends n → judged (values_of s) (walk_of s) ≡ accepted n
        unfolding judged
        part_ends e = part_small ∙ ap (judged (values_of s)) (stops_ends part e)

        pub part_refused : {why : Refusal} → p.stop ≡ stop.Refused why → judged (values_of s) (walk_of s) ≡ refused why
        unfolding judged
        part_refused e = part_small ∙ ap (judged (values_of s)) (stops_refused part e)

        pub part_goes_on : p.stop ≡ stop.Full → Checking s v false
        part_goes_on e =
            let o = (stops_full part e).0 in
            record { goes_by = o.goes_by; same = sym (part_small ∙ ap (judged (values_of s)) o.is_left); whole = λ z. no_way z }

  -- where nothing was placed before, the whole walk was placed
  pub all_placed : {n : ℕ} → p.stop ≡ stop.Ends n → at_once ≡ true → WholeIn s covers n p.count
  all_placed {n} e once =
      let z = g.whole once in
      record {
        many = part.many;
        taken = part.taken;
        begins =
            subst (λ t. BeginsIn s 0 (take p.count covers) (walk_of s) part.taken t) (stops_ends part e)
            (subst (λ t. BeginsIn s 0 (take p.count covers) t part.taken part.left) z.0 (subst (λ (i : ℕ). BeginsIn s i (take p.count covers) (left_of w) part.taken part.left) z.1 part.begins));
      }

  pub all_if : (b : Bool) {n : ℕ} → p.stop ≡ stop.Ends n → at_once ≡ b → IfSome (then_some b p.count) (WholeIn s covers n)
  all_if true e once = all_placed e once
  all_if false e once = tt
