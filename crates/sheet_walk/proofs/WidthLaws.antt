-- The test of the record width.
-- Assumes nothing.
use mathlib.Core.Path.{◌≡◌, refl, subst}
use Rattle.std.specs.Prelude.{Result, Ok, Err, MatchResult}
use mathlib.Core.Bool.{Bool, true, false}
use Prim.Native.Nat.{ℕ}
use borrow.Author.Tests.{le-leb, leb-true}
use lib.Dec.{leb}
use Rattle.sheet_walk.specs.Steps.{widest_record, width_right}
use Rattle.sheet_walk.specs.declared.Refusal.{Refusal}
use Rattle.sheet_walk.specs.declared.Refusal.TheVariants.{RecordWidth}
use Rattle.sheet_walk.specs.declared.width.Width.{Width}
use Rattle.sheet_walk.specs.Promises.{WidthRight, WidthRightIs}
use Rattle.std.proofs.lemmas.Bool.{and_parts}

pub width_passed : (R : ℕ) → width_right R ≡ true → WidthRight R
width_passed R e =
    let r = and_parts (leb 1 R) (leb R widest_record) e in
    record { from = leb-true 1 R r.0; to = leb-true R widest_record r.1 }

pub width_right_lem : (R : ℕ) → WidthRight R → width_right R ≡ true
width_right_lem R w = rw (le-leb 1 R w.from, le-leb R widest_record w.to)

pub width_right_is : WidthRightIs
width_right_is R = (width_passed R, width_right_lem R)

pub width_wrong : (R : ℕ) → (WidthRight R → ⊥) → width_right R ≡ false
width_wrong R e = go (width_right R) refl
  where
    go : (b : Bool) → width_right R ≡ b → width_right R ≡ false
    go true g = absurd (e (width_passed R g))
    go false g = g

-- ---- a width as the code has it

pub right : (w : Width) → WidthRight w.columns
right w = record { from = w.from; to = w.to }

-- what making it of a number answers
abbrev MadeOf : ℕ → Result Width Refusal → Type 0
MadeOf R r = MatchResult r (λ w. w.columns ≡ R) (λ why. (why ≡ RecordWidth) × (WidthRight R → ⊥))

pub width_is : (R : ℕ) {r : Result Width Refusal} {w : Width} → MadeOf R r → r ≡ Ok w → w.columns ≡ R
width_is R m e = subst (MadeOf R) e m

pub width_refused : (R : ℕ) {r : Result Width Refusal} {why : Refusal} → MadeOf R r → r ≡ Err why → (why ≡ RecordWidth) × (width_right R ≡ false)
width_refused R m e = let n = subst (MadeOf R) e m in (n.0, width_wrong R n.1)
