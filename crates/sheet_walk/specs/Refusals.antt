-- The rules, 'Checks by place': the columns 'No.' and 'Place' of a sheet's refusals.
-- Assumes nothing.
use Rattle.std.specs.Prelude.{ℕ}
use Rattle.format_items.specs.Refusals as format
use Rattle.sheet_walk.specs.declared.Refusal.{Refusal}
use Rattle.sheet_walk.specs.declared.Refusal.TheVariants.{RecordWidth, Format, Element, TextArea, NoRecord, NextRecord, NoField, Kind, Column, TooLarge, FieldText}

abbrev pub refusal_number : Refusal → ℕ
refusal_number RecordWidth = 1
refusal_number (Format why) = format.refusal_number why
refusal_number (Element p) = 6
refusal_number TextArea = 13
refusal_number NoRecord = 9
refusal_number (NextRecord p) = 9
refusal_number (NoField p) = 10
refusal_number (Kind p) = 7
refusal_number (Column p) = 8
refusal_number (TooLarge p) = 11
refusal_number (FieldText p) = 12

abbrev pub refusal_place : Refusal → ℕ
refusal_place RecordWidth = 0
refusal_place (Format why) = format.refusal_place why
refusal_place (Element p) = p
refusal_place TextArea = 0
refusal_place NoRecord = 0
refusal_place (NextRecord p) = p
refusal_place (NoField p) = p
refusal_place (Kind p) = p
refusal_place (Column p) = p
refusal_place (TooLarge p) = p
refusal_place (FieldText p) = p
