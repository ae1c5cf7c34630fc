-- Words in 32 bits.
-- Assumes nothing.
use Rattle.std.specs.Prelude.{cond, [], ◌∷◌, get_or, ℕ, ◌/◌, ◌%◌, leb}
use Rattle.settings.specs.declared.SettingItem.TheVariants.{SP, SS, S}
use Rattle.format_words.specs.declared.Word.{Word}
use Rattle.format_words.specs.declared.Word.TheVariants as word
use Rattle.format_words.specs.declared.packed.Packed.{Packed}

-- the small number of a word: the places of an F, or where a literal starts
abbrev pub detail_of : Word → ℕ
detail_of (word.I w) = 0
detail_of (word.F w d) = d
detail_of (word.L w) = 0
detail_of word.A = 0
detail_of (word.Aw w) = 0
detail_of (word.X n) = 0
detail_of (word.T n) = 0
detail_of word.Slash = 0
detail_of (word.Literal start n) = start
detail_of (word.Setting item) = 0

-- the kinds: those of fields are the lowest, that of literals is the highest
abbrev pub i_kind : ℕ
i_kind = 0

abbrev pub f_kind : ℕ
f_kind = 1

abbrev pub l_kind : ℕ
l_kind = 2

abbrev pub aw_kind : ℕ
aw_kind = 3

abbrev pub literal_kind : ℕ
literal_kind = 15

-- the word of a kind, a small number and a number of columns: from `literal_kind` on a literal; below it the word at that place of this
-- list, and past the list's end a slash (of those kinds only the slash's own is made)
abbrev pub word_of : ℕ → ℕ → ℕ → Word
word_of kind d n =
    cond (leb literal_kind kind) (word.Literal d n)
    (get_or (word.I n ∷ word.F n d ∷ word.L n ∷ word.Aw n ∷ word.A ∷ word.X n ∷ word.T n ∷ word.Setting SP ∷ word.Setting SS ∷ word.Setting S ∷ []) kind word.Slash)

-- the kind of a packed word, in the high 4 bits; its small number, in 12; and its number of columns, in 16
unfoldable pub kind_in : Packed → ℕ
kind_in p = p.bits / 65536 / 4096

unfoldable pub detail_in : Packed → ℕ
detail_in p = p.bits / 65536 % 4096

unfoldable pub columns_in : Packed → ℕ
columns_in p = p.bits % 65536

-- the word that is packed
unfoldable pub word_in : Packed → Word
word_in p = word_of (kind_in p) (detail_in p) (columns_in p)
