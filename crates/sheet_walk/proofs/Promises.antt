-- The theorems on the walk that specs/Promises.antt states.
-- Assumes nothing.
use Rattle.sheet_walk.specs.Promises.{WidthRightIs, EndIs, ReturnTakes, ItemRefusedIs, EndRefusedIs, CoversInside, CoversReached, ElementsSuited, PutsEach, LiteralsWide, RecordsBeyond, RefusedBecause, RefusedOnlyThere, EndsExactly, CoversExactly, SettingCarried, AfterSSThroughout, CoveredTwiceIs, ColumnsKept}
use Rattle.sheet_walk.proofs.WidthLaws
use Rattle.sheet_walk.proofs.Returns
use Rattle.sheet_walk.proofs.Refusing
use Rattle.sheet_walk.proofs.Covering
use Rattle.sheet_walk.proofs.Coming
use Rattle.sheet_walk.proofs.SettingLaws
use Rattle.sheet_walk.proofs.Beyond
use Rattle.sheet_walk.proofs.Twice
use Rattle.sheet_walk.proofs.Windows

-- ---- the record width

pub width_right_is : WidthRightIs
width_right_is = WidthLaws.width_right_is

-- ---- the walk is total

pub end_is : EndIs
end_is = Returns.end_is

pub return_takes : ReturnTakes
return_takes = Returns.return_takes

-- ---- what is refused

pub item_refused_is : ItemRefusedIs
item_refused_is = Refusing.item_refused_is

pub end_refused_is : EndRefusedIs
end_refused_is = Refusing.end_refused_is

-- ---- what is covered

pub covers_inside : CoversInside
covers_inside = Covering.covers_inside

pub covers_reached : CoversReached
covers_reached = Covering.covers_reached

pub elements_suited : ElementsSuited
elements_suited = Covering.elements_suited

pub puts_each : PutsEach
puts_each = Covering.puts_each

pub literals_wide : LiteralsWide
literals_wide = Covering.literals_wide

pub records_beyond : RecordsBeyond
records_beyond = Beyond.records_beyond

pub refused_because : RefusedBecause
refused_because = Covering.refused_because

pub refused_only_there : RefusedOnlyThere
refused_only_there = Refusing.refused_only_there

pub ends_exactly : EndsExactly
ends_exactly = Coming.ends_exactly

pub covers_exactly : CoversExactly
covers_exactly = Coming.covers_exactly

-- ---- which setting holds

pub setting_carried : SettingCarried
setting_carried = SettingLaws.setting_carried

pub after_ss_throughout : AfterSSThroughout
after_ss_throughout = SettingLaws.after_ss_throughout

-- ---- columns covered twice

pub covered_twice_is : CoveredTwiceIs
covered_twice_is = Twice.covered_twice_is

pub columns_kept : ColumnsKept
columns_kept = Windows.columns_kept
