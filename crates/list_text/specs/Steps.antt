-- What the inner readers answer. (Nothing here need be believed.)
-- Assumes nothing.
use Rattle.std.specs.Prelude.{Bool, cond, List, ℕ, ℤ, Option, Some, None}
use Rattle.number.specs.Limits.{most_digits}
use Rattle.number.specs.Digits.{value}
use Rattle.number.specs.Magnitude.{with_sign}
use Rattle.list_text.specs.ElementLines.{some_digits, is_number, number_of}

unfoldable pub digits_read : ℕ → List ℕ → Option ℕ
digits_read most s = cond (some_digits most s) (Some (value s)) None

unfoldable pub signed_read : Bool → List ℕ → Option ℤ
signed_read negated s = cond (some_digits most_digits s) (Some (with_sign negated (value s))) None

unfoldable pub number_read : List ℕ → Option ℤ
number_read s = cond (is_number s) (Some (number_of s)) None
