-- The run of an accepted format: what the passes over the walk are given.
-- Assumes nothing.
use Rattle.std.proofs.Common.{◌≡◌, List, ℕ}
use Rattle.format_words.specs.declared.run.Run.{Run}
use Rattle.format_load.specs.Loaded.{RunHeld}
use Rattle.list_elements.specs.Elements.{kinds_of}
use Rattle.list_elements.specs.declared.Element.{Element}
use Rattle.sheet_walk.specs.Steps.{Records}
use Rattle.sheet_walk.specs.Walk.{sheet}
use Rattle.sheet_walk.specs.Given.{run_sheet}

-- the sheet of a format's run is the format's
pub run_sheet_is : {format : List ℕ} (r : Run) (h : RunHeld format r) (es : List Element) (rs : Records) → run_sheet r es rs ≡ sheet h.items (kinds_of es) rs
run_sheet_is r h es rs = rw (h.return_to, h.mean)
