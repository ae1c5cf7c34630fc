-- The rows before the walk, where the records of an accepted writing are read back: they are passed, and the walk is the same.
-- Assumes nothing.
use mathlib.Core.Path.{◌≡◌, refl, sym, ap, subst, ◌∙◌}
use mathlib.Core.Bool.{true}
use mathlib.Core.List.{List, map}
use Prim.Native.Nat.{ℕ, ◌/◌, ◌<◌, ◌≤◌}
use native.Mathlib.Nat.{le-div_iff_mul-le}
use native.Mathlib.Omega.{arith}
use borrow.Author.Tests.{le-leb}
use lib.ListN.{length, length-map}
use Rattle.format_items.specs.Items.{Items}
use Rattle.format_grammar.specs.Check as formats
use Rattle.format_grammar.proofs.Promises as grammar
use Rattle.list_elements.specs.Elements.{Kind, kind_of, values}
use Rattle.list_elements.specs.Limits.{ListCheck, good, within_limits, wanted_within, may_be_wanted, wanted_check, texts_length, longest_text}
use Rattle.list_elements.specs.declared.Value.{Value}
use Rattle.list_elements.specs.declared.Value.TheVariants as value
use Rattle.list_elements.proofs.GoodLaws.{good_at, check_good}
use Rattle.list_elements.proofs.WithinLaws.{within_text}
use Rattle.list_elements.proofs.RowSix.{good_back}
use Rattle.sheet_walk.specs.Walk.{Trace, sheet, walk}
use Rattle.sheet_walk.specs.Promises.{EndsWith}
use Rattle.sheet_walk.proofs.Promises.{records_beyond}
use Rattle.sheet_rows.specs.Rows.{format_row}
use Rattle.sheet_rows.proofs.RowLaws.{all_passed, walk_under_lem}
use Rattle.write_passes.specs.Placed.{value_at}
use Rattle.sheet_write.specs.Promises as writing
use Rattle.sheet_write.specs.Promises.{values_of, records_number}
use Rattle.sheet_write.proofs.Promises.{records_reached}
use Rattle.read_passes.specs.Given.{kind_at, gathered}
use Rattle.sheet_read.specs.Reading.{concluded, wanted_rows, reading_of}
use Rattle.sheet_read.proofs.ReadLaws.{wanted_passed}
use Rattle.sheet_read.specs.Promises as reading
use Rattle.sheet_read.specs.Promises.{kinds_of}
use Rattle.read_back.specs.DemandThree.{Accepted, ReadsBack}
use Rattle.read_back.proofs.Placed.{acceptable, kind_at_lem, records_long}
use Rattle.sheet_walk.specs.Steps.{records_in, widest_record}

-- ---- what becomes of a reading that passes the rows before the walk

rows_passed : (R : ℕ) (format : List ℕ) (xs : Items) (check : ListCheck) (kinds : List Kind) (room : ℕ) (records : List ℕ) → 1 ≤ R → R ≤ widest_record
    → formats.outcome format ≡ formats.accepted xs → check ≡ good → texts_length kinds ≤ room → 0 < length records / R
    → reading_of R format check kinds room records ≡ concluded (gathered R kinds records (walk (sheet xs kinds (record { width = R; count = length records / R }))))
unfolding reading_of
rows_passed R format xs check kinds room records low high f g fits some =
    rw (
      all_passed R (format_row (formats.outcome format)) (wanted_rows check kinds room) (length records / R) (record { from = low; to = high }) (ap format_row f)
          (wanted_passed check kinds room g (le-leb (texts_length kinds) room fits)) (λ z. omega arith),
      walk_under_lem format xs kinds (records_in R (length records)) f,
    )

-- ---- row 6: an element within its limits has a kind that may be wanted

kind_wanted : (area : List ℕ) (v : Value) → within_limits area v ≡ true → wanted_within (kind_of v) ≡ true
kind_wanted area (value.Integer n) e = refl
kind_wanted area (value.Decimal x) e = refl
kind_wanted area (value.Logical b) e = refl
kind_wanted area (value.Text t) e =
    let l = within_text area t e in
    rw (le-leb 1 t.len l.low, le-leb t.len longest_text l.high)

-- ---- the reading of the records that an accepted writing wrote

module _ (c : writing.Call) (t : Trace) (e : Accepted c t) (b : reading.Call) (r : ReadsBack c b) where
  -- as many elements, of the same kinds
  same_length : length (values b.wanted) ≡ length (values_of c)
  same_length = sym (length-map (values b.wanted) kind_of) ∙ ap length r.same_kinds ∙ length-map (values_of c) kind_of

  same_kind : (j : ℕ) → kind_of (value_at (values b.wanted) j) ≡ kind_of (value_at (values_of c) j)
  same_kind j =
      sym (kind_at_lem (values b.wanted) j) ∙ ap (λ ks. kind_at ks j) r.same_kinds ∙ kind_at_lem (values_of c) j

  -- row 6 is passed
  wanted_good : wanted_check b.wanted ≡ good
  wanted_good =
      let g = check_good (within_limits c.area) c.list (acceptable c t e).walks.list in
      good_back may_be_wanted b.wanted (omega (arith, g.1, r.same_count))
      (λ j l h.
      ap wanted_within (same_kind j)
      ∙ kind_wanted c.area (value_at (values_of c) j) (good_at (within_limits c.area) (values_of c) g.0 j (omega (arith, same_length))))

  -- the records are at least those written
  enough : records_number c ≤ length b.records / c.R
  enough =
      let from = (acceptable c t e).walks.width.from in
      let long = records_long c t e r.following in
      (le-div_iff_mul-le from).1 (rw r.same_records long)

  -- the same walk
  same_walk : reading.walk_of b (acceptable c t e).xs ≡ t
  same_walk =
      let a = acceptable c t e in
      let kinds : List Kind = map kind_of (values_of c) in
      ap (λ ks. walk (sheet a.xs ks (record { width = b.R; count = length b.records / b.R }))) r.same_kinds
      ∙ ap (λ (R : ℕ). walk (sheet a.xs kinds (record { width = R; count = length b.records / R }))) r.same_width
      ∙ records_beyond (sheet a.xs kinds (record { width = c.R; count = length c.buffer / c.R })) (records_number c) (length b.records / c.R)
      (subst (EndsWith (records_number c)) a.is a.ends) enough
      ∙ sym a.is

  -- what is gathered on it
  pub read_is : reading.becomes b ≡ concluded (gathered c.R (map kind_of (values_of c)) b.records t)
  read_is =
      let w = (acceptable c t e).walks in
      let xs : Items = (acceptable c t e).xs in
      let some : 0 < length b.records / b.R = rw r.same_width (omega (arith, enough, (records_reached c t (records_number c) e).2)) in
      rows_passed b.R b.format xs (wanted_check b.wanted) (kinds_of b) (length b.area) b.records
      (omega (arith, w.width.from, r.same_width)) (omega (arith, w.width.to, r.same_width))
      (ap formats.outcome r.same_format ∙ (grammar.accepts_exactly c.format xs).1 w.format) wanted_good r.room some
      ∙ ap (λ s. concluded (gathered b.R (kinds_of b) b.records s)) same_walk
      ∙ ap (λ ks. concluded (gathered b.R ks b.records t)) r.same_kinds
      ∙ ap (λ (R : ℕ). concluded (gathered R (map kind_of (values_of c)) b.records t)) r.same_width
