-- What reading a whole format gives.
-- Assumes nothing.
use Rattle.std.specs.Prelude.{◌≡◌, List, ℕ, ◌≤◌, length, take, Result, Ok, Err}
use Rattle.format_items.specs.Items.{Items}
use Rattle.format_grammar.specs.Grammar.{levels}
use Rattle.format_items.specs.Ranges.{numbers, first_outside}
use Rattle.format_grammar.specs.Reading.{items, wrong, reading}
use Rattle.format_words.specs.Held.{Holds}
use Rattle.format_words.specs.declared.Entry.{Entry}
use Rattle.format_read.specs.declared.Position.{Position}
use Rattle.format_read.specs.declared.Ungrammatical.{Ungrammatical}

-- the text is read as items, which the first entries of a hold, their characters being the first of t
pub record ItemsRead (s : List ℕ) (a : List Entry) (t : List ℕ) (p : Position) : Type 0 where
  pub read : Items
  pub is : reading s ≡ items read
  pub holds : Holds t p.chars levels (take p.entries a) read
  pub outside_is : p.outside ≡ first_outside (numbers read)
  pub few_entries : p.entries ≤ length s
  pub few_chars : p.chars ≤ length s

-- the items, or the offset of the byte that cannot go on
abbrev pub format_read : List ℕ → List Entry → List ℕ → Result Position Ungrammatical → Type 0
format_read s a t (Ok p) = ItemsRead s a t p
format_read s a t (Err e) = reading s ≡ wrong e.place
