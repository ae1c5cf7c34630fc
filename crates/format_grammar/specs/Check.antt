-- The rules, 'Checks by place': rows 2 to 5. 'The format check takes the format alone and applies rows 2 to 5', 'in this
-- order'. Row 2 stands last in this file, since each row is written with the rows that apply after it.
-- Assumes nothing.
use Rattle.std.specs.Prelude.{cond, List, ℕ, ltb, length, Option, Some, None}
use Rattle.format_items.specs.Items.{Items, none}
use Rattle.format_items.specs.Ranges.{numbers, first_outside}
use Rattle.format_items.specs.Size.{size, largest_size}
use Rattle.format_grammar.specs.Reading.{Reading, items, wrong, reading}
use Rattle.format_items.specs.Refusals.{longest_format, refusal_number, refusal_place}
use Rattle.format_items.specs.declared.FormatRefusal.{FormatRefusal}
use Rattle.format_items.specs.declared.FormatRefusal.TheVariants.{Length, Grammar, Range, Size}

-- accepted as items, or refused
pub data Outcome : Type 0 where
  accepted : Items → Outcome
  refused : FormatRefusal → Outcome

-- row 5: 'size over 4,096'
abbrev pub check_size : Items → Outcome
check_size xs = cond (ltb largest_size (size xs)) (refused Size) (accepted xs)

-- row 4: 'a number out of range'
abbrev pub check_range : Option ℕ → Items → Outcome
check_range None xs = check_size xs
check_range (Some p) xs = refused (Range p)

-- row 3: 'not of the grammar'. (`reading` need not be believed: by the laws `AcceptsExactly` and `GrammarRefused` of
-- `Promises` it reads exactly what the grammar derives.)
abbrev pub check_grammar : Reading → Outcome
check_grammar (wrong p) = refused (Grammar p)
check_grammar (items xs) = check_range (first_outside (numbers xs)) xs

-- row 2: 'format over 1,024 bytes'
unfoldable pub outcome : List ℕ → Outcome
outcome s = cond (ltb longest_format (length s)) (refused Length) (check_grammar (reading s))

-- the number and the place of an outcome: '0 for an accepted format check', and 0 for the place that it does not have
abbrev pub outcome_number : Outcome → ℕ
outcome_number (accepted xs) = 0
outcome_number (refused why) = refusal_number why

abbrev pub outcome_place : Outcome → ℕ
outcome_place (accepted xs) = 0
outcome_place (refused why) = refusal_place why

-- the items of an accepted format; none of a refused one
abbrev pub items_of : Outcome → Items
items_of (accepted xs) = xs
items_of (refused why) = none
