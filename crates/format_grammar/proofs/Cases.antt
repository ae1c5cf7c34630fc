-- Cases on the tests of the reader.
-- Assumes nothing.
use mathlib.Core.Path.{◌≡◌, refl}
use mathlib.Core.Logic.{inl, inr}
use mathlib.Core.Bool.{Bool, true, false, ◌||◌}
use Prim.Native.Nat.{ℕ}
use borrow.Author.Tests.{eqb-true}
use lib.Dec.{eqb}
use Rattle.format_grammar.specs.Characters.{apostrophe, quotation_mark}
use Rattle.format_grammar.specs.Grammar.{Mark}
use Rattle.format_grammar.specs.Reading.{State, pick}

pub pick_cases : (P : State → Type 0) (t : Bool) (a b : State) → (t ≡ true → P a) → (t ≡ false → P b) → P (pick t a b)
pick_cases P true a b f g = f refl
pick_cases P false a b f g = g refl

-- an apostrophe or a quotation mark, by the test for one
pub is_mark : (b : ℕ) → (eqb b apostrophe || eqb b quotation_mark) ≡ true → Mark b
is_mark b e = go (eqb b apostrophe) refl e
  where
    go : (t : Bool) → eqb b apostrophe ≡ t → (t || eqb b quotation_mark) ≡ true → Mark b
    go true f g = inl (eqb-true b apostrophe f)
    go false f g = inr (eqb-true b quotation_mark g)
