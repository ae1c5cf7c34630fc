-- The numbers of refusals are small.
-- Assumes nothing.
use Prim.Native.Nat.{◌≤◌}
use native.Mathlib.Omega.{arith}
use Rattle.number.specs.Limits.{largest}
use Rattle.format_items.specs.Refusals as format
use Rattle.format_items.specs.declared.FormatRefusal.{FormatRefusal}
use Rattle.format_items.specs.declared.FormatRefusal.TheVariants as format-refusal
use Rattle.sheet_walk.specs.Refusals.{refusal_number}
use Rattle.sheet_walk.specs.declared.Refusal.{Refusal}
use Rattle.sheet_walk.specs.declared.Refusal.TheVariants.{RecordWidth, Format, Element, TextArea, NoRecord, NextRecord, NoField, Kind, Column, TooLarge, FieldText}

pub format_number_small : (why : FormatRefusal) → format.refusal_number why ≤ largest
format_number_small format-refusal.Length = omega arith
format_number_small (format-refusal.Grammar p) = omega arith
format_number_small (format-refusal.Range p) = omega arith
format_number_small format-refusal.Size = omega arith

pub number_small : (why : Refusal) → refusal_number why ≤ largest
number_small RecordWidth = omega arith
number_small (Format why) = format_number_small why
number_small (Element p) = omega arith
number_small TextArea = omega arith
number_small NoRecord = omega arith
number_small (NextRecord p) = omega arith
number_small (NoField p) = omega arith
number_small (Kind p) = omega arith
number_small (Column p) = omega arith
number_small (TooLarge p) = omega arith
number_small (FieldText p) = omega arith
