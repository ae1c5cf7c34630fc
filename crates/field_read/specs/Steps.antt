-- What the inner readers find in a field s: the sign, a run of digits, and what is left after them. Their contracts cite it,
-- no promise does.
-- Assumes nothing.
use Rattle.std.specs.Prelude.{◌≡◌, false, List, [], ◌∷◌, ◌++◌, ℕ, ◌+◌, ◌*◌, ◌^◌, ◌<◌, ◌≤◌, length, Option, Some, None}
use Rattle.std.specs.Borrow.{Bor}
use Rattle.buffer.specs.Characters.{blank}
use Rattle.number.specs.Limits.{largest}
use Rattle.number.specs.Digits.{is_digit, Digits, value}
use Rattle.field_written.specs.declared.Sign.{Sign}
use Rattle.field_read.specs.Read.{unblanked, sign_of, after_sign}
use Rattle.field_read.specs.declared.Run.{Run}

-- something is left of s without its blanks: the sign, and what follows it, blanks aside, which is the end `rest` of s
pub record Signed (s : List ℕ) (sign : Sign) (rest : List ℕ) : Type 0 where
  pub front : List ℕ
  pub ends : s ≡ front ++ rest
  pub some : 0 < length (unblanked s)
  pub sign_is : sign ≡ sign_of (unblanked s)
  pub rest_is : after_sign (unblanked s) ≡ unblanked rest

abbrev pub FrontIs : List ℕ → Option (Sign × Bor (List ℕ)) → Type 0
FrontIs s None = unblanked s ≡ []
FrontIs s (Some f) = Signed s f.0 f.1.now

-- before the end `rest` of s stand `count` digits, blanks among them, which after the number v make the number m.
-- (`fewer`: so that `count` does not overflow.)
pub record RunSoFar (s : List ℕ) (v m count : ℕ) (rest : List ℕ) : Type 0 where
  pub front : List ℕ
  pub ends : s ≡ front ++ rest
  pub digits : List ℕ
  pub all : Digits digits
  pub rest_is : unblanked s ≡ digits ++ unblanked rest
  pub many : count ≡ length digits
  pub is : m ≡ v * 10 ^ length digits + value digits
  pub low : m ≤ largest
  pub fewer : count + length rest ≤ length s

-- s ends, or begins with neither a blank nor a digit
abbrev pub Stopped : List ℕ → Type 0
Stopped [] = Unit {0}
Stopped (x ∷ xs) = (x ≡ blank → ⊥) × (is_digit x ≡ false)

-- and the run ends there
pub record Ran (s : List ℕ) (v m count : ℕ) (rest : List ℕ) : Type 0 where
  pub run : RunSoFar s v m count rest
  pub stop : Stopped rest

-- in front stand digits which after the number v make too large a number
pub record RunTooLarge (s : List ℕ) (v : ℕ) : Type 0 where
  pub digits : List ℕ
  pub more : List ℕ
  pub all : Digits digits
  pub rest_is : unblanked s ≡ digits ++ more
  pub high : largest < v * 10 ^ length digits + value digits

abbrev pub RunIs : List ℕ → ℕ → Option Run → Type 0
RunIs s v (Some r) = Ran s v r.value r.count r.rest.now
RunIs s v None = RunTooLarge s v
