-- The placements of a walk, and the sheet that it goes by.
-- Assumes nothing.
use Rattle.std.proofs.Common.{◌≡◌, List, ℕ, suc}
use Rattle.format_words.specs.declared.run.Run.{Run}
use Rattle.list_elements.specs.declared.Element.{Element}
use Rattle.sheet_walk.specs.declared.records.Records.{Records}
use Rattle.sheet_walk.specs.declared.walk.Walk.{Walk}
use Rattle.sheet_walk.specs.Walk.{Trace, put, done, stopped}
use Rattle.sheet_walk.specs.Given.{items_of, given_sheet}
use Rattle.sheet_walk.specs.Promises.{Walkable}
use Rattle.sheet_walk.specs.Followed.{GoesBy, sheet_of}
use Rattle.format_items.proofs.MetWithinLaws.{drop_within}

-- how many placements a walk has
unfoldable pub puts : Trace → ℕ
puts (put p t) = suc (puts t)
puts (done n) = 0
puts (stopped why) = 0

pub sheet_is : {w : Walk} {r : Run} {es : List Element} {rs : Records} → GoesBy w r es rs → sheet_of w ≡ given_sheet r es rs
sheet_is g = rw (g.run, g.elements, g.records)

-- ---- the sheet of a run

pub run_walkable : (r : Run) (es : List Element) (rs : Records) → Walkable (given_sheet r es rs)
run_walkable r es rs = record { items_within = r.within; part_within = drop_within (items_of r) r.back r.within; some_record = rs.some_record }
