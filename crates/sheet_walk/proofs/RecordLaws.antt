-- The records of a lent buffer.
-- Assumes nothing.
use Rattle.std.proofs.Common.{◌≡◌, sym, subst, ap, ℕ, ◌*◌, ◌/◌, ◌≤◌, arith}
use Rattle.std.specs.Prelude.{Result, Ok, Err}
use native.Mathlib.Nat.{div-mul-le_self}
use Rattle.sheet_walk.specs.Steps.{Records, records_in}
use Rattle.sheet_walk.specs.Given.{records_of, LentAs}
use Rattle.sheet_walk.specs.declared.Refusal.{Refusal}
use Rattle.sheet_walk.specs.declared.Refusal.TheVariants.{NoRecord}
use Rattle.sheet_walk.specs.declared.records.Records as code

-- where there is one
pub record Lent (R B : ℕ) (rs : code.Records) : Type 0 where
  pub is : records_of rs ≡ records_in R B
  pub some : B / R ≡ 0 → ⊥
  pub room : rs.count * rs.width ≤ B

module _ (R B : ℕ) {r : Result code.Records Refusal} (a : LentAs R B r) where
  pub some_lent : {rs : code.Records} → r ≡ Ok rs → Lent R B rs
  some_lent {rs} e =
      let is : records_of rs ≡ records_in R B = subst (LentAs R B) e a in
      record {
        is = is;
        some = λ z. omega (arith, rs.some_record, ap (λ (x : Records). x.count) is, z);
        room = subst (λ (x : Records). x.count * x.width ≤ B) (sym is) (div-mul-le_self B R);
      }

  pub none_lent : {why : Refusal} → r ≡ Err why → (why ≡ NoRecord) × (B / R ≡ 0)
  none_lent e = subst (LentAs R B) e a
