-- The marked examples, computed by the definitions.
-- Assumes nothing.
use mathlib.Core.Path.{refl}
use Rattle.buffer.specs.Characters.{bytes}
use Rattle.number.specs.Digits.{all_digits, value, digits_of, count_digits, digit_count}
use Rattle.number.specs.Rounding.{rounded_magnitude, rounded_units, too_large}
use Rattle.field_written.specs.Written.{most_digits, fewest_digits, numeral_text, field_text, fewest_columns, field, starred, put_decimal, decimal_part}
use Rattle.field_read.specs.Read.{unblanked, before_point, from_point, number_read, read_field}
use Rattle.sheet_examples.specs.Examples.{computed, stated, examples, ExamplesHold}

pub examples_hold : ExamplesHold
unfolding bytes computed stated examples all_digits value digits_of count_digits digit_count rounded_magnitude rounded_units too_large most_digits fewest_digits numeral_text field_text fewest_columns field starred put_decimal decimal_part unblanked before_point from_point number_read read_field
examples_hold = refl
