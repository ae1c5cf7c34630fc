-- What the inner functions of reading do, from what their callees say.
-- Assumes nothing.
use Rattle.std.proofs.Common.{Bor, ◌≡◌, refl, sym, ap, ◌∙◌, true, false, List, ℕ, ◌/◌, length}
use Rattle.std.specs.Prelude.{leb, Result, Ok, Err}
use Rattle.format_items.specs.Items.{Items}
use Rattle.format_grammar.specs.Check as formats
use Rattle.format_items.specs.declared.FormatRefusal.{FormatRefusal}
use Rattle.list_elements.specs.Elements.{Kind}
use Rattle.list_elements.specs.Limits.{ListCheck, good, bad, texts_length}
use Rattle.list_elements.specs.Contents.{Content}
use Rattle.list_elements.specs.declared.BadElement.{BadElement}
use Rattle.list_elements.specs.declared.Element.{Element}
use Rattle.list_elements.specs.Elements as elements
use Rattle.sheet_walk.specs.Steps.{width_right, records_in}
use Rattle.sheet_walk.specs.Promises.{WidthRight}
use Rattle.sheet_walk.specs.Walk.{sheet, walk}
use Rattle.sheet_walk.specs.declared.Refusal.{Refusal}
use Rattle.sheet_walk.specs.declared.Refusal.TheVariants as refusal
use Rattle.sheet_rows.specs.Rows as rows
use Rattle.sheet_rows.specs.Rows.{Row, in_order, format_row, rows_before}
use Rattle.sheet_rows.proofs.RowLaws as row
use Rattle.read_passes.specs.Given.{Gathered, accepted, refused, gathered}
use Rattle.read_passes.specs.Passes as passes
use Rattle.read_passes.specs.Passes.{FoundSoFar}
use Rattle.sheet_read.specs.Reading.{Reading, accepts, refuses, concluded, wanted_rows, reading_of}
use Rattle.sheet_read.specs.Parts.{ending_of, Did, ReadText}

-- ---- a refusal, and what is gathered on the walk

not_accepts : {P : Type 0} {why : Refusal} {cs : List Content} {n : ℕ} → refuses why ≡ accepts cs n → P
not_accepts e = let z : ⊥ = cc in absurd z

pub did_refused : {m : Reading} {why : Refusal} {kinds : List Kind} {records : List ℕ} {found : List Element} → m ≡ refuses why → Did m kinds records (Err why) found
did_refused e = record { ends = rw e; held = λ cs n f. not_accepts (sym e ∙ f) }

concluded_ending : (g : Gathered) → passes.ending_of g ≡ ending_of (concluded g)
concluded_ending (accepted cs n) = refl
concluded_ending (refused why) = refl

concluded_accepts : (g : Gathered) {cs : List Content} {n : ℕ} → concluded g ≡ accepts cs n → g ≡ accepted cs n
concluded_accepts (accepted ds m) {cs} {n} e =
    let p : ds ≡ cs = cc in
    let q : m ≡ n = cc in
    rw (p, q)
concluded_accepts (refused why) e = not_accepts e

-- ---- the rows before the walk

-- rows 6 and 13
module _ (check : ListCheck) (kinds : List Kind) (room : ℕ) where
  pub element_refuses : {p : ℕ} → check ≡ bad p → wanted_rows check kinds room ≡ rows.refused (refusal.Element p)
  unfolding wanted_rows in_order
  element_refuses e = rw e

  module _ (g : check ≡ good) where
    pub area_refuses : leb (texts_length kinds) room ≡ false → wanted_rows check kinds room ≡ rows.refused refusal.TextArea
    unfolding wanted_rows in_order
    area_refuses e = rw (g, e)

    pub wanted_passed : leb (texts_length kinds) room ≡ true → wanted_rows check kinds room ≡ rows.passed
    unfolding wanted_rows in_order
    wanted_passed e = rw (g, e)

module _ (R : ℕ) (text : List ℕ) (check : ListCheck) (kinds : List Kind) (room : ℕ) (records : List ℕ) where
  -- the rows of the wanted elements, and the reading
  abbrev wanted : Row
  wanted = wanted_rows check kinds room

  abbrev it : Reading
  it = reading_of R text check kinds room records

  row_refuses : {why : Refusal} → rows_before R (format_row (formats.outcome text)) wanted (length records / R) ≡ rows.refused why
      → {found : List Element} → Did it kinds records (Err why) found
  unfolding reading_of
  row_refuses e = did_refused (rw e)

  pub width_refuses : width_right R ≡ false → {found : List Element} → Did it kinds records (Err refusal.RecordWidth) found
  width_refuses e = row_refuses (row.width_refuses R (format_row (formats.outcome text)) wanted (length records / R) e)

  module _ (w : WidthRight R) where
    pub format_refuses : {why : FormatRefusal} → formats.outcome text ≡ formats.refused why
        → {found : List Element} → Did it kinds records (Err (refusal.Format why)) found
    format_refuses e = row_refuses (row.format_refuses R (format_row (formats.outcome text)) wanted (length records / R) w (ap format_row e))

    module _ {xs : Items} (a : formats.outcome text ≡ formats.accepted xs) where
      pub list_refuses : {p : ℕ} → check ≡ bad p → {found : List Element} → Did it kinds records (Err (refusal.Element p)) found
      list_refuses e = row_refuses (row.list_refuses R (format_row (formats.outcome text)) wanted (length records / R) w (ap format_row a) (element_refuses check kinds room e))

      module _ (g : check ≡ good) where
        pub no_room : leb (texts_length kinds) room ≡ false → {found : List Element} → Did it kinds records (Err refusal.TextArea) found
        no_room f = row_refuses (row.list_refuses R (format_row (formats.outcome text)) wanted (length records / R) w (ap format_row a) (area_refuses check kinds room g f))

        module _ (h : leb (texts_length kinds) room ≡ true) where
          pub no_record : length records / R ≡ 0 → {found : List Element} → Did it kinds records (Err refusal.NoRecord) found
          no_record n = row_refuses (row.record-refuses R (format_row (formats.outcome text)) wanted (length records / R) w (ap format_row a) (wanted_passed check kinds room g h) n)

          -- the walk, under the sheet of the format
          pub walked : (length records / R ≡ 0 → ⊥) → {r : Result ℕ Refusal} {found : List Element}
              → (let G = gathered R kinds records (walk (sheet xs kinds (records_in R (length records)))) in
              r ≡ passes.ending_of G → ((cs : List Content) (n : ℕ) → G ≡ accepted cs n → FoundSoFar records kinds found cs) → Did it kinds records r found)
          unfolding reading_of
          walked n e f =
              let G = gathered R kinds records (walk (sheet xs kinds (records_in R (length records)))) in
              let q : reading_of R text check kinds room records ≡ concluded G =
              rw (
                row.all_passed R (format_row (formats.outcome text)) wanted (length records / R) w (ap format_row a) (wanted_passed check kinds room g h) n,
                row.walk_under_lem text xs kinds (records_in R (length records)) a,
              ) in
              rw q (record { ends = e ∙ concluded_ending G; held = λ cs m z. f cs m (concluded_accepts G z) })

-- for any list
module _ (R : ℕ) (text : List ℕ) (x : Result (Bor (List Element)) BadElement) (room : ℕ) (records : List ℕ) (found : List Element) where
  pub format_text : WidthRight R → {why : FormatRefusal} → formats.outcome text ≡ formats.refused why → ReadText R text x room records (Err (refusal.Format why)) found
  format_text w {why} e = go x
    where
      go : (y : Result (Bor (List Element)) BadElement) → ReadText R text y room records (Err (refusal.Format why)) found
      go (Ok es) = format_refuses R text good (elements.kinds_of es.now) room records w e
      go (Err b) = λ kinds. format_refuses R text (Err b) kinds room records w e
