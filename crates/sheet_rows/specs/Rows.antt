-- The rules, 'Checks by place': the rows before the walk, once for every call that walks; and the walk under a format's text.
-- Assumes nothing.
use Rattle.std.specs.Prelude.{cond, List, [], ◌∷◌, ℕ, eqb, Ok, Err}
use Rattle.format_grammar.specs.Check as formats
use Rattle.list_elements.specs.Limits.{ListCheck}
use Rattle.list_elements.specs.Elements.{Kind}
use Rattle.sheet_walk.specs.Steps.{Records, width_right}
use Rattle.sheet_walk.specs.Walk.{Trace, sheet, walk}
use Rattle.sheet_walk.specs.declared.Refusal.{Refusal}
use Rattle.sheet_walk.specs.declared.Refusal.TheVariants.{RecordWidth, Format, Element, NoRecord}

-- a row is passed, or refuses
pub data Row : Type 0 where
  passed : Row
  refused : Refusal → Row

-- a row, and those that apply where it is passed
abbrev pub then : Row → Row → Row
then passed rest = rest
then (refused why) rest = refused why

-- 'Rows apply in this order'
unfoldable pub in_order : List Row → Row
in_order [] = passed
in_order (row ∷ rows) = then row (in_order rows)

-- row 1: 'R outside 1 to 255'
abbrev pub width_row : ℕ → Row
width_row R = cond (width_right R) passed (refused RecordWidth)

-- rows 2 to 5, by the format check
abbrev pub format_row : formats.Outcome → Row
format_row (formats.accepted xs) = passed
format_row (formats.refused why) = refused (Format why)

-- row 6, by the list's check
abbrev pub element_row : ListCheck → Row
element_row (Ok u) = passed
element_row (Err e) = refused (Element e.place)

-- row 9, 'buffer, before the walk': 'no record', where there are n
abbrev pub record_row : ℕ → Row
record_row n = cond (eqb n 0) (refused NoRecord) passed

-- the rows before the walk: 1, those of the format, those of the list, and 9
unfoldable pub rows_before : ℕ → Row → Row → ℕ → Row
rows_before R format list n = in_order (width_row R ∷ format ∷ list ∷ record_row n ∷ [])

-- what becomes of a call, by these rows: it is refused, or goes on to the walk
abbrev pub after_rows : {A : Type 0} → (Refusal → A) → Row → A → A
after_rows refuses passed walked = walked
after_rows refuses (refused why) walked = refuses why

-- the walk under a format's text, for elements of these kinds. (Of a refused format there are no items; the rows before refuse it,
-- so that this walk is not used.)
abbrev pub walk_under : List ℕ → List Kind → Records → Trace
walk_under format kinds rs = walk (sheet (formats.items_of (formats.outcome format)) kinds rs)
