-- What the inner functions of writing do. (Nothing here need be believed: the public call's contract does not speak of it.)
-- Assumes nothing.
use Rattle.std.specs.Prelude.{◌≡◌, List, ℕ, length, Result, Ok, Err}
use Rattle.list_elements.specs.Limits.{good}
use Rattle.list_elements.specs.declared.BadElement.{BadElement}
use Rattle.list_elements.specs.declared.Value.{Value}
use Rattle.list_elements.specs.declared.listed.Listed.{Listed}
use Rattle.sheet_walk.specs.Answers.{Answer}
use Rattle.sheet_write.specs.Writing.{Writing, writing_of, answer_of, buffer_of}
use Rattle.list_elements.specs.Checked.{values_in}

-- the answer r, and the buffer afterwards, are those of a writing
pub record Wrote (R : ℕ) (area : List ℕ) (vs : List Value) (before : List ℕ) (w : Writing) (r : Answer) (after : List ℕ) : Type 0 where
  pub answers : r ≡ answer_of vs w
  pub bytes : after ≡ buffer_of R area vs before w

-- under a format's text, for the elements of a good list, or its bad element, whatever its values
abbrev pub WroteText : ℕ → List ℕ → Result Listed BadElement → List ℕ → Answer → List ℕ → Type 0
WroteText R text (Ok l) before r after = Wrote R l.area.now (values_in l) before (writing_of R text good (values_in l) (length before)) r after
WroteText R text (Err e) before r after = (area : List ℕ) (vs : List Value) → Wrote R area vs before (writing_of R text (Err e) vs (length before)) r after
