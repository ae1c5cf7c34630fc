-- A part of a text: none, one byte more at its end or at its beginning, and the value of its digits.
-- Assumes nothing.
use mathlib.Core.Path.{◌≡◌, sym, ap, ◌∙◌}
use mathlib.Core.List.{List, [], ◌∷◌, ◌++◌}
use Prim.Native.Nat.{ℕ, suc, ◌+◌, ◌-◌, ◌*◌, ◌<◌, ◌≤◌}
use native.Mathlib.Omega.{arith}
use lib.ListN.{length, get_or, drop, length-drop, length-take}
use lib.Seq.{take-suc, get_or-drop}
use Rattle.number.specs.Digits.{Digits, value}
use Rattle.number.proofs.DigitLaws.{value_append, digits_append, digits_split}
use Rattle.format_grammar.specs.Grammar.{part}
use Rattle.format_grammar.proofs.ReadLaws.{drop_one}

pub part_none : (s : List ℕ) (a : ℕ) → part s a a ≡ []
unfolding part
part_none s a = let e : a - a ≡ 0 = omega arith in rw e

pub part_more : (s : List ℕ) (a b : ℕ) → a ≤ b → b < length s → part s a (b + 1) ≡ part s a b ++ get_or s b 0 ∷ []
unfolding part
part_more s a b h g =
    let e : b + 1 - a ≡ suc (b - a) = omega arith in
    let f : a + (b - a) ≡ b = omega arith in
    let k : b - a < length (drop a s) = rw (length-drop a s) (omega arith) in
    rw (e, take-suc (drop a s) (b - a) 0 k, get_or-drop a s (b - a) 0, f)

pub part_first : (s : List ℕ) (a b : ℕ) → a < b → a < length s → part s a b ≡ get_or s a 0 ∷ part s (a + 1) b
unfolding part
part_first s a b h g =
    let e : b - a ≡ suc (b - (a + 1)) = omega arith in
    rw (drop_one s a g, e)

pub part_length : (s : List ℕ) (a b : ℕ) → b ≤ length s → length (part s a b) ≡ b - a
unfolding part
part_length s a b h = simp (length-take, length-drop) (omega arith)

-- the first byte of a part
pub record First (s : List ℕ) (a b c : ℕ) (cs : List ℕ) : Type 0 where
  pub some : a < b
  pub is : get_or s a 0 ≡ c
  pub rest : part s (a + 1) b ≡ cs

pub first : (s : List ℕ) (a b c : ℕ) (cs : List ℕ) → b ≤ length s → part s a b ≡ c ∷ cs → First s a b c cs
first s a b c cs h e =
    let n : b - a ≡ suc (length cs) = sym (part_length s a b h) ∙ ap length e in
    let f = sym (part_first s a b (omega arith) (omega arith)) ∙ e in
    record { some = omega arith; is = cc; rest = cc }

-- ---- digits

value_snoc : (xs : List ℕ) (b : ℕ) → value (xs ++ b ∷ []) ≡ value xs * 10 + (b - 48)
unfolding value
value_snoc xs b = rw (value_append xs (b ∷ [])) (omega arith)

pub value_more : (s : List ℕ) (a b : ℕ) → a ≤ b → b < length s → value (part s a (b + 1)) ≡ value (part s a b) * 10 + (get_or s b 0 - 48)
value_more s a b h g = rw (part_more s a b h g) (value_snoc (part s a b) (get_or s b 0))

pub digits_more : (s : List ℕ) (a b : ℕ) → a ≤ b → b < length s → Digits (part s a b) → 48 ≤ get_or s b 0 → get_or s b 0 ≤ 57 → Digits (part s a (b + 1))
digits_more s a b h g d lo hi = rw (part_more s a b h g) (digits_append (part s a b) _ d (lo, hi, tt))

-- the last digit and those before it
pub digits_less : (s : List ℕ) (a b : ℕ) → a ≤ b → b < length s → Digits (part s a (b + 1)) → Digits (part s a b) × (48 ≤ get_or s b 0) × (get_or s b 0 ≤ 57)
digits_less s a b h g d =
    let k = digits_split (part s a b) (get_or s b 0 ∷ []) (rw (part_more s a b h g) at d) in
    (k.0, k.1.0, k.1.1)
