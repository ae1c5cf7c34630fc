-- What the inner functions of writing do, from what their callees say.
-- Assumes nothing.
use Rattle.std.proofs.Common.{◌≡◌, refl, ap, subst, ◌∙◌, false, List, map, ℕ, ◌*◌, ◌/◌, ◌≤◌, length, replicate, take, arith}
use Rattle.std.specs.List.{All}
use Rattle.std.specs.Prelude.{Some, IfSome, Result, Ok, Err}
use native.Mathlib.Nat.{mul-le-mul_right}
use Rattle.buffer.specs.Splice.{splice}
use Rattle.format_items.specs.Items.{Items}
use Rattle.format_grammar.specs.Check as formats
use Rattle.format_items.specs.declared.FormatRefusal.{FormatRefusal}
use Rattle.format_words.specs.declared.run.Run.{Run}
use Rattle.format_load.specs.Loaded.{RunHeld}
use Rattle.list_elements.specs.Limits.{ListCheck, good, bad}
use Rattle.list_elements.specs.Elements.{kind_of}
use Rattle.list_elements.specs.declared.BadElement.{BadElement}
use Rattle.list_elements.specs.declared.Value.{Value}
use Rattle.list_elements.specs.declared.listed.Listed.{Listed}
use Rattle.sheet_walk.specs.Answers.{Answer}
use Rattle.sheet_walk.specs.Walk.{Sheet, sheet, done, walk}
use Rattle.sheet_walk.specs.Laid.{laid, blanked, written}
use Rattle.sheet_walk.specs.Given.{run_sheet, given_sheet, records_of}
use Rattle.sheet_walk.specs.declared.Refusal.{Refusal}
use Rattle.sheet_walk.specs.declared.Refusal.TheVariants as refusal
use Rattle.sheet_walk.specs.declared.records.Records as records
use Rattle.sheet_walk.specs.declared.Cover.{Cover}
use Rattle.sheet_walk.proofs.Covering.{covers_reached}
use Rattle.sheet_walk.proofs.Puts.{run_walkable}
use Rattle.sheet_walk.specs.Steps.{Records, width_right, records_in}
use Rattle.sheet_walk.specs.Promises.{WidthRight}
use Rattle.sheet_rows.specs.Rows as rows_of_lem
use Rattle.sheet_rows.specs.Rows.{format_row, element_row, rows_before}
use Rattle.sheet_rows.proofs.RowLaws as row
use Rattle.list_elements.proofs.ContentLaws.{kinds_are}
use Rattle.sheet_rows.proofs.Loads.{run_sheet_is}
use Rattle.write_passes.specs.Placed.{starred_in, Judged, accepted, refused, judged}
use Rattle.write_passes.specs.declared.Sheet as code
use Rattle.write_passes.specs.declared.checking.Checked.{Checked}
use Rattle.write_passes.specs.Passes.{values_of, walk_of, SomeSmallBegins, WholeIn, CheckedAs, sp_among, IsPlain, StarsLaid, laid_in, BytesLaid}
use Rattle.write_passes.proofs.LayLaws.{columns_plain}
use Rattle.write_passes.proofs.PlacedLaws.{judged_ends}
use Rattle.sheet_write.specs.Writing.{walked, writing_of}
use Rattle.sheet_write.specs.Parts.{Wrote, WroteText}
use Rattle.list_elements.specs.Checked.{values_in}

-- ---- how the walk ends, from the checking pass's answer

module _ (s : code.Sheet) (covers : List Cover) (j : Judged) {r : Result Checked Refusal} (is : CheckedAs s covers j r) where
  pub check_accepted : {c : Checked} → r ≡ Ok c → (j ≡ accepted c.records) × IfSome c.whole (WholeIn s covers c.records)
  check_accepted e = subst (CheckedAs s covers j) e is

  pub check_whole : {c : Checked} {n : ℕ} → r ≡ Ok c → c.whole ≡ Some n → WholeIn s covers c.records n
  check_whole {c} e w = subst (λ o. IfSome o (WholeIn s covers c.records)) w (check_accepted e).1

  pub check_refused : {why : Refusal} → r ≡ Err why → j ≡ refused why
  check_refused e = subst (CheckedAs s covers j) e is

module _ (s : code.Sheet) {n : ℕ} (a : judged (values_of s) (walk_of s) ≡ accepted n) where
  -- the records reached lie in the buffer
  pub reached : {B : ℕ} → s.records.count * s.records.width ≤ B → n * s.records.width ≤ B
  reached {B} fits =
      let m = (covers_reached (given_sheet s.run s.list.elements.now s.records) (run_walkable s.run s.list.elements.now s.records) n (judged_ends (values_of s) (walk_of s) n a)).0 in
      omega (arith, mul-le-mul_right s.records.width m)

  pub wrote_accepted : {starred : ℕ} {before blank after : List ℕ} → blank ≡ splice before 0 (replicate (n * s.records.width) 32)
      → starred ≡ starred_in (values_of s) (walk_of s) → after ≡ laid_in s (walk_of s) blank
      → Wrote s.records.width s.list.area.now (values_of s) before (walked (values_of s) (walk_of s)) (Ok (record { records = n; starred = starred })) after
  unfolding written blanked
  wrote_accepted b t e = rw a (record { answers = rw t; bytes = rw (← b) e })

  -- the whole walk was placed at once, and laid
  module _ {covers : List Cover} {count : ℕ} (w : WholeIn s covers n count) where
    pub whole_begins : SomeSmallBegins s 0 (take count covers)
    whole_begins = record { whole = walk_of s; taken = w.taken; left = done n; begins = w.begins; n = n; accepts = a }

    pub whole_plain : sp_among s.run.words.now ≡ false → All IsPlain (take count covers)
    whole_plain e = columns_plain s e (λ p i. i) w.begins

    pub whole_stars : {starred : ℕ} → StarsLaid s 0 (take count covers) starred → starred ≡ starred_in (values_of s) (walk_of s)
    unfolding starred_in
    whole_stars f = let k = f w.taken (walk_of s) (done n) w.begins in omega arith

    pub whole_bytes : (blank : List ℕ) {after : List ℕ} → BytesLaid s 0 (take count covers) blank after → after ≡ laid_in s (walk_of s) blank
    unfolding laid
    whole_bytes blank f = f w.taken (walk_of s) (done n) w.begins

-- into the records of a buffer, under the sheet of the format
pub wrote_under : (l : Listed) (r : Run) (rs : records.Records) (R B : ℕ) → records_of rs ≡ records_in R B → {format : List ℕ} (k : RunHeld format r) {before : List ℕ} {a : Answer} {after : List ℕ}
    → Wrote rs.width l.area.now (values_in l) before (walked (values_in l) (walk (given_sheet r l.elements.now rs))) a after
    → Wrote R l.area.now (values_in l) before (walked (values_in l) (walk (sheet k.items (map kind_of (values_in l)) (records_in R B)))) a after
wrote_under l r rs R B e k {before} {a} {after} w =
    let lent = subst (λ (x : Records). Wrote x.width l.area.now (values_in l) before (walked (values_in l) (walk (run_sheet r l.elements.now x))) a after) e w in
    subst (λ (z : Sheet). Wrote R l.area.now (values_in l) before (walked (values_in l) (walk z)) a after)
    (run_sheet_is r k l.elements.now (records_in R B) ∙ ap (λ ks. sheet k.items ks (records_in R B)) (kinds_are l.elements.now)) lent

-- ---- the rows before the walk

module _ (R : ℕ) (text : List ℕ) (check : ListCheck) {area : List ℕ} {vs : List Value} {before : List ℕ} where
  row_refuses : {why : Refusal} → rows_before R (format_row (formats.outcome text)) (element_row check) (length before / R) ≡ rows_of_lem.refused why
      → Wrote R area vs before (writing_of R text check vs (length before)) (Err why) before
  unfolding writing_of
  row_refuses e = rw e (record { answers = refl; bytes = refl })

  pub width_refuses : width_right R ≡ false → Wrote R area vs before (writing_of R text check vs (length before)) (Err refusal.RecordWidth) before
  width_refuses e = row_refuses (row.width_refuses R (format_row (formats.outcome text)) (element_row check) (length before / R) e)

  module _ (w : WidthRight R) where
    pub format_refuses : {why : FormatRefusal} → formats.outcome text ≡ formats.refused why
        → Wrote R area vs before (writing_of R text check vs (length before)) (Err (refusal.Format why)) before
    format_refuses e = row_refuses (row.format_refuses R (format_row (formats.outcome text)) (element_row check) (length before / R) w (ap format_row e))

    module _ {xs : Items} (a : formats.outcome text ≡ formats.accepted xs) where
      pub list_refuses : {p : ℕ} → check ≡ bad p → Wrote R area vs before (writing_of R text check vs (length before)) (Err (refusal.Element p)) before
      list_refuses e = row_refuses (row.list_refuses R (format_row (formats.outcome text)) (element_row check) (length before / R) w (ap format_row a) (ap element_row e))

      module _ (g : check ≡ good) where
        pub no_record : length before / R ≡ 0 → Wrote R area vs before (writing_of R text check vs (length before)) (Err refusal.NoRecord) before
        no_record e = row_refuses (row.record-refuses R (format_row (formats.outcome text)) (element_row check) (length before / R) w (ap format_row a) (ap element_row g) e)

        pub rows_passed : (length before / R ≡ 0 → ⊥) → {r : Answer} {after : List ℕ}
            → Wrote R area vs before (walked vs (walk (sheet xs (map kind_of vs) (records_in R (length before))))) r after
            → Wrote R area vs before (writing_of R text check vs (length before)) r after
        unfolding writing_of
        rows_passed n d =
            rw (row.all_passed R (format_row (formats.outcome text)) (element_row check) (length before / R) w (ap format_row a) (ap element_row g) n, row.walk_under_lem text xs (map kind_of vs) (records_in R (length before)) a) d

-- for any list
module _ (R : ℕ) (text : List ℕ) (x : Result Listed BadElement) (before : List ℕ) where
  text_refuses : {why : Refusal} → ((check : ListCheck) (area : List ℕ) (vs : List Value) → Wrote R area vs before (writing_of R text check vs (length before)) (Err why) before)
      → WroteText R text x before (Err why) before
  text_refuses {why} w = go x
    where
      go : (y : Result Listed BadElement) → WroteText R text y before (Err why) before
      go (Ok l) = w good l.area.now (values_in l)
      go (Err e) = λ area vs. w (Err e) area vs

  pub format_text : WidthRight R → {why : FormatRefusal} → formats.outcome text ≡ formats.refused why → WroteText R text x before (Err (refusal.Format why)) before
  format_text w e = text_refuses (λ check area vs. format_refuses R text check w e)
