-- What is found of a format's text: its items, or the refusal.
-- Assumes nothing.
use Rattle.std.specs.Prelude.{◌≡◌, List, ℕ, ◌≤◌, length, take, Result, Ok, Err}
use Rattle.format_items.specs.Items.{Items}
use Rattle.format_items.specs.Ranges.{numbers, AllWithin}
use Rattle.format_items.specs.Size.{size, largest_size}
use Rattle.format_grammar.specs.Grammar.{levels}
use Rattle.format_grammar.specs.Check.{accepted, refused, outcome}
use Rattle.format_words.specs.declared.Entry.{Entry}
use Rattle.format_words.specs.Held.{Holds}
use Rattle.format_items.specs.declared.FormatRefusal.{FormatRefusal}
use Rattle.format_load.specs.declared.CheckedItems.{CheckedItems}

-- an accepted format: the first n entries of a hold its items, the characters of their literals are among the first c of t,
-- and their size is k
pub record ItemsHeld (s : List ℕ) (a : List Entry) (t : List ℕ) (n k : ℕ) : Type 0 where
  pub items : Items
  pub accepts : outcome s ≡ accepted items
  pub c : ℕ
  pub holds : Holds t c levels (take n a) items
  pub some : n ≤ length a
  pub within : c ≤ length t
  pub ranges : AllWithin (numbers items)
  pub sized : k ≡ size items
  pub small : k ≤ largest_size

-- the items, or the refusal
abbrev pub items_checked : List ℕ → List Entry → List ℕ → Result CheckedItems FormatRefusal → Type 0
items_checked s a t (Ok x) = ItemsHeld s a t x.entries x.size
items_checked s a t (Err why) = outcome s ≡ refused why
