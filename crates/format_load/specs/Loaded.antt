-- A format loaded: what its run of words means.
-- Assumes nothing.
use Rattle.std.specs.Prelude.{◌≡◌, List, map, ℕ, ◌≤◌, length, take, drop, Result, Ok, Err}
use Rattle.format_items.specs.Items.{Items}
use Rattle.format_items.specs.Met.{met, return_part}
use Rattle.format_items.specs.MetRanges.{AllMetWithin}
use Rattle.format_items.specs.Size.{largest_size}
use Rattle.format_grammar.specs.Check.{accepted, refused, outcome}
use Rattle.format_items.specs.Refusals.{longest_format}
use Rattle.format_words.specs.Words.{met_in, RunWords}
use Rattle.format_words.specs.declared.packed.Packed.{Packed}
use Rattle.format_words.specs.declared.run.Run.{Run}
use Rattle.format_run.specs.declared.unroll.Unrolled.{Unrolled}
use Rattle.format_load.specs.declared.LoadError.{LoadError}
use Rattle.format_load.specs.declared.LoadError.TheVariants.{Refused, TooSmall}

-- an accepted format: the words stand for the items met, with the characters of their literals in `chars`, and the words from `back`
-- on for the part to return to
pub record MetAs (format chars : List ℕ) (words : List Packed) (back : ℕ) : Type 0 where
  pub items : Items
  pub accepts : outcome format ≡ accepted items
  pub mean : map (met_in chars) words ≡ met items
  pub return_to : drop back (map (met_in chars) words) ≡ met (return_part items)

-- the same of the words of a run. (That the characters of literals are all there, and that the items met are within their ranges, are ghost
-- fields of a run.)
abbrev pub RunHeld : List ℕ → Run → Type 0
RunHeld format r = MetAs format r.chars.now r.words.now r.back

-- the same of words in an array, where the characters of literals are all there, and the items met are within their ranges
pub record RunIn (format chars : List ℕ) (words : List Packed) (back : ℕ) : Type 0 where
  pub held : MetAs format chars words back
  pub sound : RunWords (length chars) words
  pub within : AllMetWithin (map (met_in chars) words)

-- the refusal; or that arrays of these lengths (of entries, of characters, of words) are not all of the largest size that a
-- format may need
abbrev pub not_loaded : List ℕ → ℕ → ℕ → ℕ → LoadError → Type 0
not_loaded format e c n (Refused why) = outcome format ≡ refused why
not_loaded format e c n TooSmall = longest_format ≤ e → longest_format ≤ c → largest_size ≤ n → ⊥

-- not loaded; or the run, which lies in its arrays
abbrev pub loaded : List ℕ → ℕ → ℕ → ℕ → Result Run LoadError → Type 0
loaded format e c n (Err why) = not_loaded format e c n why
loaded format e c n (Ok r) = RunHeld format r × (length r.words.now ≤ n) × (length r.chars.now ≡ c)

-- not loaded; or the run, which is the first words of `run`, with the characters that stand in `chars`
abbrev pub loaded_into : List ℕ → ℕ → ℕ → ℕ → List ℕ → List Packed → Result Unrolled LoadError → Type 0
loaded_into format e c n chars run (Err why) = not_loaded format e c n why
loaded_into format e c n chars run (Ok u) = (u.end ≤ length run) × RunIn format chars (take u.end run) u.back
