-- The public call, from what its parts do.
-- Assumes nothing.
use mathlib.Core.Path.{◌≡◌, refl, ap, ◌∙◌}
use mathlib.Core.List.{List}
use Prim.Native.Nat.{ℕ}
use lib.ListN.{length}
use Rattle.std.specs.Prelude.{Result, Ok, Err}
use Rattle.list_elements.specs.Limits.{ListCheck}
use Rattle.list_elements.specs.Checked.{listed_as}
use Rattle.list_elements.specs.declared.BadElement.{BadElement}
use Rattle.list_elements.specs.declared.listed.Listed.{Listed}
use Rattle.list_elements.specs.declared.Value.{Value}
use Rattle.sheet_walk.specs.Answers.{Answer, answer_number, answer_place, answer_records, answer_starred}
use Rattle.sheet_write.specs.Writing.{Writing, accepts, refuses, writing_of, answer_of, buffer_of, writing_number, writing_place, writing_records, writing_starred}
use Rattle.sheet_write.specs.Parts.{Wrote, WroteText}

-- ---- what was written for the elements of a list

pub wrote_listed : {R : ℕ} (format : List ℕ) (check : ListCheck) (vs : List Value) (area : List ℕ) {before : List ℕ} {a : Answer} {after : List ℕ} (x : Result Listed BadElement) → listed_as check vs area x
    → WroteText R format x before a after → Wrote R area vs before (writing_of R format check vs (length before)) a after
wrote_listed format check vs area (Ok x) p w = rw (p.0, ← p.1, ← p.2) w
wrote_listed format check vs area (Err e) p w = rw p (w area vs)

-- ---- the answer's number, place, records and starred

number_of : (vs : List Value) (w : Writing) → answer_number (answer_of vs w) ≡ writing_number w
number_of vs (accepts t n) = refl
number_of vs (refuses why) = refl

place_of : (vs : List Value) (w : Writing) → answer_place (answer_of vs w) ≡ writing_place w
place_of vs (accepts t n) = refl
place_of vs (refuses why) = refl

records_of : (vs : List Value) (w : Writing) → answer_records (answer_of vs w) ≡ writing_records w
records_of vs (accepts t n) = refl
records_of vs (refuses why) = refl

starred_of_lem : (vs : List Value) (w : Writing) → answer_starred (answer_of vs w) ≡ writing_starred vs w
starred_of_lem vs (accepts t n) = refl
starred_of_lem vs (refuses why) = refl

-- all that a call promises whose writing is w
pub record Promised (R : ℕ) (area : List ℕ) (vs : List Value) (before : List ℕ) (w : Writing) (r : Answer) (after : List ℕ) : Type 0 where
  pub answers : r ≡ answer_of vs w
  pub bytes : after ≡ buffer_of R area vs before w
  pub number : answer_number r ≡ writing_number w
  pub place : answer_place r ≡ writing_place w
  pub records : answer_records r ≡ writing_records w
  pub starred : answer_starred r ≡ writing_starred vs w

pub promised : {R : ℕ} {area : List ℕ} {vs : List Value} {before : List ℕ} {w : Writing} {r : Answer} {after : List ℕ} → Wrote R area vs before w r after → Promised R area vs before w r after
promised {vs = vs} {w = w} did =
    record {
      answers = did.answers;
      bytes = did.bytes;
      number = ap answer_number did.answers ∙ number_of vs w;
      place = ap answer_place did.answers ∙ place_of vs w;
      records = ap answer_records did.answers ∙ records_of vs w;
      starred = ap answer_starred did.answers ∙ starred_of_lem vs w;
    }
