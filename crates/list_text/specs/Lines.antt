-- The rules, the program's input: 'each line ends in a line feed, which the last may lack'.
-- Assumes nothing.
use Rattle.std.specs.Prelude.{cond, List, [], ◌∷◌, ℕ, eqb}

abbrev pub line_feed : ℕ
line_feed = 10

-- the first line of a text, without its line feed
unfoldable pub first_line : List ℕ → List ℕ
first_line [] = []
first_line (b ∷ s) = cond (eqb b line_feed) [] (b ∷ first_line s)

-- what follows the first line and its line feed
unfoldable pub after_line : List ℕ → List ℕ
after_line [] = []
after_line (b ∷ s) = cond (eqb b line_feed) s (after_line s)

-- a byte in front of the first line; where there is none, it is a line by itself
abbrev pub in_front : ℕ → List (List ℕ) → List (List ℕ)
in_front b [] = (b ∷ []) ∷ []
in_front b (l ∷ ls) = (b ∷ l) ∷ ls

-- the lines of a text, each without its line feed: a line feed ends a line, and any other byte stands in front of the line that
-- follows. (The law `LinesAre` of `Promises`: the first line, and the lines of what follows it.)
unfoldable pub lines : List ℕ → List (List ℕ)
lines [] = []
lines (b ∷ s) = cond (eqb b line_feed) ([] ∷ lines s) (in_front b (lines s))
