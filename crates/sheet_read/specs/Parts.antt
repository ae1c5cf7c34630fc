-- What the inner functions of reading do. (Nothing here need be believed: the public call's contract does not speak of it.)
-- Assumes nothing.
use Rattle.std.specs.Prelude.{◌≡◌, List, ℕ, ◌≤◌, length, Result, Ok, Err}
use Rattle.std.specs.Borrow.{Bor}
use Rattle.list_elements.specs.Elements.{Kind, kinds_of}
use Rattle.list_elements.specs.Limits.{good}
use Rattle.list_elements.specs.Contents.{Content}
use Rattle.list_elements.specs.declared.BadElement.{BadElement}
use Rattle.list_elements.specs.declared.Element.{Element}
use Rattle.sheet_walk.specs.declared.Refusal.{Refusal}
use Rattle.read_passes.specs.Passes.{FoundSoFar}
use Rattle.sheet_read.specs.Reading.{Reading, accepts, refuses, reading_of}

-- at most n elements are wanted
abbrev pub WantedWithin : Result (Bor (List Element)) BadElement → ℕ → Type 0
WantedWithin (Ok es) n = length es.now ≤ n
WantedWithin (Err e) n = Unit

-- how a reading ends, as the inner functions answer it
abbrev pub ending_of : Reading → Result ℕ Refusal
ending_of (accepts cs n) = Ok n
ending_of (refuses why) = Err why

-- the answer r is that of a reading m; where it is accepted, what the elements hold was found
pub record Did (m : Reading) (kinds : List Kind) (records : List ℕ) (r : Result ℕ Refusal) (found : List Element) : Type 0 where
  pub ends : r ≡ ending_of m
  pub held : (cs : List Content) (n : ℕ) → m ≡ accepts cs n → FoundSoFar records kinds found cs

-- under a format's text, for the wanted elements of a good list, or its bad element, whatever its kinds
abbrev pub ReadText : ℕ → List ℕ → Result (Bor (List Element)) BadElement → ℕ → List ℕ → Result ℕ Refusal → List Element → Type 0
ReadText R text (Ok es) room records r found = Did (reading_of R text good (kinds_of es.now) room records) (kinds_of es.now) records r found
ReadText R text (Err e) room records r found = (kinds : List Kind) → Did (reading_of R text (Err e) kinds room records) kinds records r found
