-- A test that fails does not hold.
-- Assumes nothing.
use mathlib.Core.Path.{◌≡◌}
use mathlib.Core.Bool.{true, false}
use Prim.Native.Nat.{ℕ}
use native.Mathlib.Omega.{arith}

pub no_way : {P : Type 0} → false ≡ true → P
no_way e = let z : ◌≡◌ {A = ℕ} 0 1 = cc in absurd (omega arith)
