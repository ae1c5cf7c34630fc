-- The rules, 'The walk' and 'Plus signs': what each item does.
-- Assumes nothing.
use Rattle.std.specs.Prelude.{Bool, true, false, ◌&&◌, ◌||◌, cond, List, [], ◌∷◌, ℕ, ◌+◌, ◌/◌, leb, ltb, length, drop}
use Rattle.settings.specs.Settings.{set_by, start_settings}
use Rattle.settings.specs.declared.SettingItem.{SettingItem}
use Rattle.settings.specs.declared.Settings.{Settings}
use Rattle.format_items.specs.Items.{Field}
use Rattle.format_items.specs.Met.{Met}
use Rattle.list_elements.specs.Elements.{Kind, integer, decimal, logical, text, text_length}
use Rattle.sheet_walk.specs.declared.Refusal.{Refusal}
use Rattle.sheet_walk.specs.declared.Refusal.TheVariants as refusal
use Rattle.sheet_walk.specs.declared.State.{State}

-- 'The record width R is 1 to 255.'
abbrev pub widest_record : ℕ
widest_record = 255

abbrev pub width_right : ℕ → Bool
width_right R = leb 1 R && leb R widest_record

-- records: their width and their number
pub record Records : Type 0 where
  pub width : ℕ
  pub count : ℕ

-- 'A lent buffer of B bytes holds B / R whole records, rounded down.'
abbrev pub records_in : ℕ → ℕ → Records
records_in R B = record { width = R; count = B / R }

-- ---- where the walk stands, and what is covered

-- 'The walk starts at column 1 of the first record'; 'The walk carries the setting, starts with SS'
abbrev pub start : State
start = record { row = 0; column = 1; taken = 0; settings = start_settings }

-- at another column, with so many elements taken
abbrev pub to_column : State → ℕ → ℕ → State
to_column s column taken = record { row = s.row; column = column; taken = taken; settings = s.settings }

-- at column 1 of the next record
abbrev pub to_next_record : State → State
to_next_record s = record { row = s.row + 1; column = 1; taken = s.taken; settings = s.settings }

-- under other settings
abbrev pub with_settings : State → Settings → State
with_settings s g = record { row = s.row; column = s.column; taken = s.taken; settings = g }

-- what covers columns: the element of a place in the list under a field, or a literal
pub data What : Type 0 where
  element : (place : ℕ) → Field ℕ → What
  literal : (characters : List ℕ) → What

-- columns covered: in which record, from 0, from which column on, and how many; and the settings under which that is met
pub record Placement : Type 0 where
  pub what : What
  pub row : ℕ
  pub column : ℕ
  pub width : ℕ
  pub settings : Settings

-- what an item does: it moves the walk, covers columns and moves it, is refused, or ends the walk
pub data Step : Type 0 where
  moves : State → Step
  covers : Placement → State → Step
  refused : Refusal → Step
  ends : Step

-- ---- fields and the kinds of elements

abbrev pub is_integer : Kind → Bool
is_integer integer = true
is_integer decimal = false
is_integer logical = false
is_integer (text m) = false

abbrev pub is_decimal : Kind → Bool
is_decimal integer = false
is_decimal decimal = true
is_decimal logical = false
is_decimal (text m) = false

abbrev pub is_logical : Kind → Bool
is_logical integer = false
is_logical decimal = false
is_logical logical = true
is_logical (text m) = false

abbrev pub is_text : Kind → Bool
is_text integer = false
is_text decimal = false
is_text logical = false
is_text (text m) = true

-- 'Integer suits I, decimal F, logical L, text A.'
abbrev pub suits : Field ℕ → Kind → Bool
suits (Field.I w) k = is_integer k
suits (Field.F w d) k = is_decimal k
suits (Field.L w) k = is_logical k
suits Field.A k = is_text k
suits (Field.Aw w) k = is_text k

-- 'covers w columns (A alone: the text's length)'
abbrev pub field_width : Field ℕ → Kind → ℕ
field_width (Field.I w) k = w
field_width (Field.F w d) k = w
field_width (Field.L w) k = w
field_width Field.A k = text_length k
field_width (Field.Aw w) k = w

-- ---- the steps

-- 'A covered column is at most R. After X or a covering item the column is at most R + 1': w columns, one or more, from the
-- column c on end before c + w, so that both say that c + w is at most R + 1. `taken` elements are taken afterwards.
abbrev pub cover_step : Records → State → What → ℕ → ℕ → Step
cover_step rs s what w taken =
    cond (leb (s.column + w) (rs.width + 1))
    (covers (record { what = what; row = s.row; column = s.column; width = w; settings = s.settings }) (to_column s (s.column + w) taken))
    (refused (refusal.Column s.taken))

-- 'A field takes the next element and covers w columns'; 'When a field is met and no element remains, the walk ends.' 'At
-- one field the order is 7, 8': the kind before the columns. The last argument has the kinds of the elements that remain.
abbrev pub field_step : Records → State → Field ℕ → List Kind → Step
field_step rs s f [] = ends
field_step rs s f (k ∷ ks) =
    cond (suits f k) (cover_step rs s (element s.taken f) (field_width f k) (s.taken + 1)) (refused (refusal.Kind s.taken))

-- 'nX moves n columns on.' 'After X .. the column is at most R + 1.'
abbrev pub x_step : Records → State → ℕ → Step
x_step rs s n = cond (leb (s.column + n) (rs.width + 1)) (moves (to_column s (s.column + n) s.taken)) (refused (refusal.Column s.taken))

-- 'Tn moves to column n.' 'Tn needs n ≤ R.'
abbrev pub t_step : Records → State → ℕ → Step
t_step rs s n = cond (leb n rs.width) (moves (to_column s n s.taken)) (refused (refusal.Column s.taken))

-- 'A slash goes to column 1 of the next record'; row 9: 'none left'
abbrev pub next_record : Records → State → Step
next_record rs s = cond (ltb (s.row + 1) rs.count) (moves (to_next_record s)) (refused (refusal.NextRecord s.taken))

-- SP, SS and S: other settings, and nothing else changes
abbrev pub setting_step : State → SettingItem → Step
setting_step s k = moves (with_settings s (set_by k s.settings))

-- an item met, the list's elements being of these kinds; 'A literal covers its characters' columns'
unfoldable pub step : List Kind → Records → Met → State → Step
step kinds rs (Met.field f) s = field_step rs s f (drop s.taken kinds)
step kinds rs (Met.X n) s = x_step rs s n
step kinds rs (Met.T n) s = t_step rs s n
step kinds rs Met.slash s = next_record rs s
step kinds rs (Met.literal cs) s = cover_step rs s (literal cs) (length cs) s.taken
step kinds rs (Met.setting k) s = setting_step s k

-- ---- the end of the format

abbrev pub is_field : Met → Bool
is_field (Met.field f) = true
is_field (Met.X n) = false
is_field (Met.T n) = false
is_field Met.slash = false
is_field (Met.literal cs) = false
is_field (Met.setting k) = false

-- 'That part must have a field.'
unfoldable pub has_field : List Met → Bool
has_field [] = false
has_field (x ∷ xs) = is_field x || has_field xs

-- 'It also ends at the end of the format when none remains'; 'with elements left, the walk goes to the next record and
-- returns'; 'at a return, 10 before 9'
unfoldable pub end_step : List Kind → Records → List Met → State → Step
end_step kinds rs part s =
    cond (leb (length kinds) s.taken) ends (cond (has_field part) (next_record rs s) (refused (refusal.NoField s.taken)))
