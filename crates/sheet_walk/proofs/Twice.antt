-- Columns covered twice, and the test for them.
-- Assumes nothing.
use mathlib.Core.Path.{◌≡◌, refl}
use mathlib.Core.Bool.{true, false}
use mathlib.Core.Logic.{◌⊎◌, inl, inr}
use Prim.Native.Nat.{ℕ, ◌+◌, ◌<◌, max, min}
use native.Mathlib.Omega.{arith}
use borrow.Author.Tests.{ltb-true, lt-ltb, eqb-true, eq-eqb}
use lib.Dec.{eqb, ltb}
use Rattle.std.proofs.lemmas.Bool.{or_cases, or_left, or_right, or_parts, and_parts}
use Rattle.sheet_walk.specs.Steps.{Placement}
use Rattle.sheet_walk.specs.Walk.{Trace, put, done, stopped}
use Rattle.sheet_walk.specs.Columns.{Covers, In, here, there, CoveredTwice, share, shares_with, covered_twice}
use Rattle.sheet_walk.specs.Promises.{CoveredTwiceIs}

-- ---- two placements

-- the first column that both may cover
abbrev pub meeting : Placement → Placement → ℕ
meeting p q = max p.column q.column

pub share_covers : (p q : Placement) → share p q ≡ true → Covers p p.row (meeting p q) × Covers q p.row (meeting p q)
share_covers p q e =
    let t = and_parts (eqb p.row q.row) (ltb (meeting p q) (min (p.column + p.width) (q.column + q.width))) e in
    let r : p.row ≡ q.row = eqb-true _ _ t.0 in
    let l : meeting p q < min (p.column + p.width) (q.column + q.width) = ltb-true _ _ t.1 in (
      record { in-record = refl; from = omega arith; to = omega arith },
      record { in-record = omega arith; from = omega arith; to = omega arith },
    )

pub covers_share : (p q : Placement) (r c : ℕ) → Covers p r c → Covers q r c → share p q ≡ true
covers_share p q r c a b =
    let to = min (p.column + p.width) (q.column + q.width) in
    let e : p.row ≡ q.row = omega arith in
    let l : meeting p q < to = omega arith in
    rw (eq-eqb p.row q.row e, lt-ltb (meeting p q) to l)

-- ---- a placement and those of a walk

pub shares_in : (p : Placement) (t : Trace) → shares_with p t ≡ true → (q : Placement) × In q t × (share p q ≡ true)
unfolding shares_with
shares_in p (put q t) e = go (shares_in p t) (or_cases (share p q) (shares_with p t) e)
  where
    go : (shares_with p t ≡ true → (q₁ : Placement) × In q₁ t × (share p q₁ ≡ true)) → (share p q ≡ true) ⊎ (shares_with p t ≡ true)
        → (q₁ : Placement) × In q₁ (put q t) × (share p q₁ ≡ true)
    go rest (inl f) = (q, here, f)
    go rest (inr f) = let r = rest f in (r.0, there r.1, r.2)
shares_in p (done n) e = let z : ◌≡◌ {A = ℕ} 0 1 = cc in absurd (omega arith)
shares_in p (stopped why) e = let z : ◌≡◌ {A = ℕ} 0 1 = cc in absurd (omega arith)

pub in-shares : (p : Placement) {q : Placement} {t : Trace} → In q t → share p q ≡ true → shares_with p t ≡ true
unfolding shares_with
in-shares p {q} (here {t}) e = or_left (share p q) (shares_with p t) e
in-shares p (there {q} {t} m) e = or_right (share p q) (shares_with p t) (in-shares p m e)

pub apart_in : (p : Placement) {q : Placement} {t : Trace} → In q t → shares_with p t ≡ false → share p q ≡ false
unfolding shares_with
apart_in p {q} (here {t}) e = (or_parts (share p q) (shares_with p t) e).0
apart_in p (there {q} {t} m) e = apart_in p m (or_parts (share p q) (shares_with p t) e).1

-- ---- a walk

-- a column is covered twice
abbrev pub SomeTwice : Trace → Type 0
SomeTwice t = (r : ℕ) × (c : ℕ) × CoveredTwice r c t

pub test_twice : (t : Trace) → covered_twice t ≡ true → SomeTwice t
unfolding covered_twice
test_twice (put p t) e = go (test_twice t) (or_cases (shares_with p t) (covered_twice t) e)
  where
    go : (covered_twice t ≡ true → SomeTwice t) → (shares_with p t ≡ true) ⊎ (covered_twice t ≡ true) → SomeTwice (put p t)
    go rest (inl f) =
        let s = shares_in p t f in
        let c = share_covers p s.0 s.2 in
        (p.row, meeting p s.0, CoveredTwice.here c.0 s.1 c.1)
    go rest (inr f) = let r = rest f in (r.0, r.1, CoveredTwice.there r.2)
test_twice (done n) e = let z : ◌≡◌ {A = ℕ} 0 1 = cc in absurd (omega arith)
test_twice (stopped why) e = let z : ◌≡◌ {A = ℕ} 0 1 = cc in absurd (omega arith)

pub twice_test : {r c : ℕ} {t : Trace} → CoveredTwice r c t → covered_twice t ≡ true
unfolding covered_twice
twice_test {r} {c} (CoveredTwice.here {p} {q} {t} a m b) = or_left (shares_with p t) (covered_twice t) (in-shares p m (covers_share p q r c a b))
twice_test (CoveredTwice.there {p} {t} m) = or_right (shares_with p t) (covered_twice t) (twice_test m)

pub covered_twice_is : CoveredTwiceIs
covered_twice_is t = (test_twice t, λ s. twice_test s.2)
