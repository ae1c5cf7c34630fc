-- A run: the items met, as words one after another.
-- Assumes nothing.
use Rattle.std.specs.Prelude.{◌≡◌, List, map, ℕ, ◌≤◌}
use Rattle.format_items.specs.Items.{Items}
use Rattle.format_items.specs.Ranges.{numbers, AllWithin}
use Rattle.format_items.specs.Size.{size}
use Rattle.format_items.specs.Met.{Met}
use Rattle.format_words.specs.Words.{met_in, RunWords}
use Rattle.format_words.specs.Held.{Holds}
use Rattle.format_words.specs.declared.packed.Packed.{Packed}
use Rattle.format_words.specs.declared.Entry.{Entry}

-- the entries hold items whose numbers are in range, and so many words have room for them
pub record SomeItemsFit (es : List Entry) (level room : ℕ) : Type 0 where
  pub t : List ℕ
  pub c : ℕ
  pub items : Items
  pub holds : Holds t c level es items
  pub ranges : AllWithin (numbers items)
  pub fits : size items ≤ room

-- the words stand for the items met ks; the characters of literals are among the first c of t
pub record AreMet (t : List ℕ) (c : ℕ) (words : List Packed) (ks : List Met) : Type 0 where
  pub sound : RunWords c words
  pub mean : map (met_in t) words ≡ ks
