-- 'Stars and reading back', proved.
-- Assumes nothing.
use mathlib.Core.Path.{◌≡◌, refl, sym, ap, subst, ◌∙◌}
use mathlib.Core.Logic.{◌↔◌}
use mathlib.Core.Bool.{Bool, true, false}
use mathlib.Core.List.{map}
use Prim.Native.Nat.{ℕ, ◌≤◌}
use native.Mathlib.Omega.{arith}
use lib.ListN.{length, length-map}
use Rattle.settings.specs.declared.Settings.{Settings}
use Rattle.format_items.specs.Items.{Field}
use Rattle.list_elements.specs.Elements.{kind_of, values, most_elements}
use Rattle.list_elements.specs.Limits.{within_limits, texts_length}
use Rattle.list_elements.specs.Contents.{content_kind, content_of, texts_of}
use Rattle.list_elements.specs.declared.Value.{Value}
use Rattle.list_elements.proofs.GoodLaws.{check_good, values_most}
use Rattle.list_elements.proofs.ContentLaws.{texts_length_lem}
use Rattle.list_elements.proofs.Promises.{gives_contents}
use Rattle.sheet_walk.specs.Steps.{Placement}
use Rattle.sheet_walk.specs.Walk.{Trace}
use Rattle.sheet_walk.specs.Columns.{In, here, there, CoveredTwice}
use Rattle.sheet_walk.specs.Promises.{numbers_from}
use Rattle.sheet_walk.specs.declared.Refusal.TheVariants.{FieldText}
use Rattle.write_passes.specs.Placed.{is_starred}
use Rattle.sheet_write.specs.Promises as writing
use Rattle.sheet_write.specs.Promises.{numeric, NoNumeral, Unrepresentable, Counted, values_of, starred_number, records_number}
use Rattle.sheet_write.proofs.Promises.{stars_exactly_when, starred_is_their_number, elements_put_lem, records_reached}
use Rattle.read_passes.specs.Given.{kind_at}
use Rattle.sheet_walk.specs.Answers.{answer_number, answer_place, answer_records}
use Rattle.sheet_read.specs.Reading.{accepts, refuses, concluded, answer_of, list_given, area_of}
use Rattle.sheet_read.specs.Promises as reading
use Rattle.sheet_read.specs.Promises.{answer_to, contents_after, kinds_of}
use Rattle.read_back.specs.DemandThree.{Accepted, StarredField, FirstStarred, ReadsBack, shown_values, ShownEach, DemandThree}
use Rattle.read_back.proofs.Gathering.{Back, test_starred, starred_test, find_first, first_starred, gathered_shown, gathered_first, shown_at_lem, kinds_shown, kinds_numbered}
use Rattle.read_back.proofs.Placed.{acceptable, shown_kinds, all_back}
use Rattle.read_back.proofs.Rows.{read_is}

-- ---- the number of starred fields

-- a property of the same placements is counted alike
counted_alike : {P Q : Placement → Type 0} {t : Trace} {k : ℕ} → Counted P t k → ((p : Placement) → In p t → P p ↔ Q p) → Counted Q t k
counted_alike Counted.ends s = Counted.ends
counted_alike Counted.refused s = Counted.refused
counted_alike (Counted.counts {p} a rest) s = Counted.counts ((s p here).0 a) (counted_alike rest (λ q m. s q (there m)))
counted_alike (Counted.passes {p} a rest) s = Counted.passes (λ q. a ((s p here).1 q)) (counted_alike rest (λ q m. s q (there m)))

-- only a numeric field has no numeral
none_numeric : {g : Settings} {v : Value} {f : Field ℕ} → NoNumeral g v f → numeric f ≡ true
none_numeric (NoNumeral.integer e none) = refl
none_numeric (NoNumeral.decimal e none) = refl

-- no numeral stands for a value exactly where its field is starred
starred_alike : (c : writing.Call) (t : Trace) → Accepted c t → (p : Placement) → In p t → Unrepresentable (values_of c) p ↔ StarredField c p
starred_alike c t e p m = (
  (λ u.
      let n = none_numeric u.none in
      (u.i, record { f = u.f; is = u.is; is_numeric = n; asterisks = (stars_exactly_when c t (records_number c) e p m u.i u.f u.is n).1 u.none })),
  (λ s.
      let r = s.1 in
      record { i = s.0; f = r.f; is = r.is; none = (stars_exactly_when c t (records_number c) e p m s.0 r.f r.is r.is_numeric).0 r.asterisks }),
)

their_number : (c : writing.Call) (t : Trace) → Accepted c t → Counted (StarredField c) t (starred_number c)
their_number c t e = counted_alike (starred_is_their_number c t (records_number c) e) (starred_alike c t e)

-- ---- reading back

module _ (c : writing.Call) (t : Trace) (e : Accepted c t) where
  -- the shown values are of the kinds of the list, as many, and at most 64
  kinds_are : map content_kind (shown_values c t) ≡ map kind_of (values_of c)
  kinds_are =
      kinds_shown c (map kind_of (values_of c)) t (shown_kinds c t e)
      ∙ ap (map (kind_at (map kind_of (values_of c)))) (elements_put_lem c t (records_number c) e ∙ ap (numbers_from 0) (sym (length-map (values_of c) kind_of)))
      ∙ kinds_numbered (map kind_of (values_of c))

  as_many : length (shown_values c t) ≡ length (values_of c)
  as_many = sym (length-map (shown_values c t) content_kind) ∙ ap length kinds_are ∙ length-map (values_of c) kind_of

  few : length (shown_values c t) ≤ most_elements
  few =
      let g = (check_good (within_limits c.area) c.list (acceptable c t e).walks.list).1 in
      omega (arith, as_many, values_most c.list)

  module _ (once : (r k : ℕ) → CoveredTwice r k t → ⊥) (b : reading.Call) (r : ReadsBack c b) where
    -- each field gives its shown value back, or nothing where it is starred
    back : (p : Placement) → In p t → Back c c.R (map kind_of (values_of c)) b.records p
    back =
        subst (λ rs. (p : Placement) → In p t → Back c c.R (map kind_of (values_of c)) rs p) (sym r.same_records)
        (all_back c t e r.following once)

    -- the texts shown have room in the text area
    texts_fit : length (texts_of (shown_values c t)) ≤ length b.area
    texts_fit =
        let l : length (texts_of (shown_values c t)) ≡ texts_length (kinds_of b) =
        texts_length_lem (shown_values c t) ∙ ap texts_length (kinds_are ∙ sym r.same_kinds) in
        omega (arith, r.room)

    -- ---- where no field is starred

    shown_back : ((p : Placement) → In p t → StarredField c p → ⊥)
        → (answer_number (answer_to b) ≡ 0) × (contents_after b ≡ shown_values c t) × (answer_records (answer_to b) ≡ records_number c)
    shown_back none =
        let is : reading.becomes b ≡ accepts (shown_values c t) (records_number c) =
        read_is c t e b r
        ∙ ap concluded (gathered_shown c c.R (map kind_of (values_of c)) b.records (records_reached c t (records_number c) e).0 (λ p m. (back p m, unstarred p m))) in (
          ap (λ w. answer_number (answer_of w)) is,
          ap (λ w. map (content_of (area_of b.area w)) (values (list_given w))) is ∙ gives_contents b.area (shown_values c t) few texts_fit,
          ap (λ w. answer_records (answer_of w)) is,
        )
      where
        unstarred : (p : Placement) → In p t → is_starred (values_of c) p ≡ false
        unstarred p m = go (is_starred (values_of c) p) refl
          where
            go : (k : Bool) → is_starred (values_of c) p ≡ k → is_starred (values_of c) p ≡ false
            go true g = absurd (none p m (test_starred c p g))
            go false g = g

    -- ---- where some are

    refused_at_first : (p : Placement) → In p t → StarredField c p
        → (i : ℕ) × FirstStarred c t i × (answer_number (answer_to b) ≡ 12) × (answer_place (answer_to b) ≡ i)
    refused_at_first p m s =
        let first = find_first c m (starred_test c p s.0 s.1) in
        let is : reading.becomes b ≡ refuses (FieldText first.0) =
        read_is c t e b r ∙ ap concluded (gathered_first c c.R (map kind_of (values_of c)) b.records first.1 back) in (
          first.0,
          first_starred c first.1 0 (length (values_of c)) (elements_put_lem c t (records_number c) e),
          ap (λ w. answer_number (answer_of w)) is,
          ap (λ w. answer_place (answer_of w)) is,
        )

-- ---- the theorems

pub shown_each : ShownEach
shown_each c t e = (
  as_many c t e,
  (λ p m i f q. shown_at_lem c m 0 (length (values_of c)) (elements_put_lem c t (records_number c) e) i i f q (omega arith)),
)

pub demand_three : DemandThree
demand_three =
    record {
      exactly_when = λ c t e. stars_exactly_when c t (records_number c) e;
      their_number = their_number;
      shown_back = λ c t b w. shown_back c t w.accepted w.once b w.back;
      refused_at_first = λ c t b w. refused_at_first c t w.accepted w.once b w.back;
    }
