-- The item met for which a word stands.
-- Assumes nothing.
use Rattle.std.specs.Prelude.{List, ℕ, ◌+◌, ◌≤◌, All, take, drop}
use Rattle.format_items.specs.Items.{Field}
use Rattle.format_items.specs.Met.{Met}
use Rattle.format_words.specs.declared.Word.{Word}
use Rattle.format_words.specs.declared.Word.TheVariants as word
use Rattle.format_words.specs.declared.packed.Packed.{Packed}
use Rattle.format_words.specs.Packing.{word_in}

-- a literal's characters stand in t
abbrev pub met_of : List ℕ → Word → Met
met_of t (word.I w) = Met.field (Field.I w)
met_of t (word.F w d) = Met.field (Field.F w d)
met_of t (word.L w) = Met.field (Field.L w)
met_of t word.A = Met.field Field.A
met_of t (word.Aw w) = Met.field (Field.Aw w)
met_of t (word.X n) = Met.X n
met_of t (word.T n) = Met.T n
met_of t word.Slash = Met.slash
met_of t (word.Literal start n) = Met.literal (take n (drop start t))
met_of t (word.Setting item) = Met.setting item

-- that for which a packed word stands
abbrev pub met_in : List ℕ → Packed → Met
met_in t p = met_of t (word_in p)

-- how far into the characters a word reaches: a literal up to its end, others not at all
abbrev pub reach : Word → ℕ
reach (word.I w) = 0
reach (word.F w d) = 0
reach (word.L w) = 0
reach word.A = 0
reach (word.Aw w) = 0
reach (word.X n) = 0
reach (word.T n) = 0
reach word.Slash = 0
reach (word.Literal start n) = start + n
reach (word.Setting item) = 0

-- a literal's characters are among the first c
abbrev pub RunWord : ℕ → Word → Type 0
RunWord c w = reach w ≤ c

-- those of a packed word are
abbrev pub RunPacked : ℕ → Packed → Type 0
RunPacked c p = RunWord c (word_in p)

-- every packed word is such
abbrev pub RunWords : ℕ → List Packed → Type 0
RunWords c ps = All (RunPacked c) ps
