-- The rules, 'Checks by place': the columns 'No.' and 'Place' of rows 2 to 5.
-- Assumes nothing.
use Rattle.std.specs.Prelude.{ℕ}
use Rattle.format_items.specs.declared.FormatRefusal.{FormatRefusal}
use Rattle.format_items.specs.declared.FormatRefusal.TheVariants.{Length, Grammar, Range, Size}

-- 'At most 1,024 bytes.'
abbrev pub longest_format : ℕ
longest_format = 1024

abbrev pub refusal_number : FormatRefusal → ℕ
refusal_number Length = 2
refusal_number (Grammar p) = 3
refusal_number (Range p) = 4
refusal_number Size = 5

abbrev pub refusal_place : FormatRefusal → ℕ
refusal_place Length = longest_format
refusal_place (Grammar p) = p
refusal_place (Range p) = p
refusal_place Size = 0
