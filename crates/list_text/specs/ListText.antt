-- The rules, the list text as a list, and row 6 of it.
-- Assumes nothing.
use Rattle.std.specs.Prelude.{List, [], ◌∷◌, ℕ, ◌+◌, length, Result, Ok, Err}
use Rattle.std.specs.Result.{result_unwrap_or}
use Rattle.list_elements.specs.Elements.{empty_list, most_elements}
use Rattle.list_elements.specs.Contents.{list_of}
use Rattle.list_elements.specs.Limits.{within_limits, ListCheck, check_values}
use Rattle.list_elements.specs.declared.Value.{Value}
use Rattle.list_elements.specs.declared.List as carried
use Rattle.list_elements.specs.declared.BadElement.{BadElement}
use Rattle.list_text.specs.Lines.{lines}
use Rattle.list_text.specs.ElementLines.{element_on}

-- 'one element a line': the elements of lines of which the first starts at an offset; the next starts after its line feed
unfoldable pub elements_from : ℕ → List (List ℕ) → List Value
elements_from at [] = []
elements_from at (l ∷ ls) = element_on at l ∷ elements_from (at + length l + 1) ls

-- the elements of a list text, texts as places in the list text itself
unfoldable pub line_values : List ℕ → List Value
line_values s = elements_from 0 (lines s)

-- row 6, the list text being the text area
unfoldable pub line_check : List ℕ → ListCheck
line_check s = check_values (within_limits s) most_elements (line_values s) (length (line_values s))

-- the list, or refusal 6
abbrev pub list_read : ListCheck → List Value → Result carried.List BadElement
list_read (Ok u) vs = Ok (list_of vs)
list_read (Err e) vs = Err e

abbrev pub line_read : List ℕ → Result carried.List BadElement
line_read s = list_read (line_check s) (line_values s)

-- the list; empty where row 6 refuses: 'no values'
abbrev pub line_list : List ℕ → carried.List
line_list s = result_unwrap_or (line_read s) empty_list
