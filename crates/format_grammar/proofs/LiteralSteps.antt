-- What one more byte of a literal says of the text.
-- Assumes nothing.
use mathlib.Core.Path.{◌≡◌, refl, sym}
use mathlib.Core.Logic.{⊎_elim}
use mathlib.Core.Bool.{Bool, true, false, cond, false≢true}
use mathlib.Core.List.{List, [], ◌∷◌, ◌++◌}
use Prim.Native.Nat.{ℕ, ◌+◌, ◌<◌, ◌≤◌}
use native.Mathlib.Omega.{arith}
use borrow.Author.Tests.{eq-eqb, leb-true}
use lib.Dec.{leb, eqb}
use lib.ListN.{length, get_or}
use Rattle.format_grammar.specs.Grammar.{At, Mark, doubled, LiteralAt}
use Rattle.buffer.specs.Characters.{Printable, is_printable}
use Rattle.format_grammar.specs.Reading.{is_empty}
use Rattle.format_grammar.proofs.PartLaws.{part_more}
use Rattle.format_grammar.proofs.Reached.{InsideAt}
use Rattle.std.proofs.lemmas.Bool.{and_parts}

-- ---- the characters with one more

doubled_plain : (m : ℕ) (cs : List ℕ) (c : ℕ) → eqb c m ≡ false → doubled m (cs ++ c ∷ []) ≡ doubled m cs ++ c ∷ []
unfolding doubled
doubled_plain m [] c e = rw e
doubled_plain m (x ∷ cs) c e = go (eqb x m) (doubled_plain m cs c e)
  where
    go : (t : Bool) → doubled m (cs ++ c ∷ []) ≡ doubled m cs ++ c ∷ []
        → cond t (m ∷ m ∷ doubled m (cs ++ c ∷ [])) (x ∷ doubled m (cs ++ c ∷ [])) ≡ cond t (m ∷ m ∷ doubled m cs) (x ∷ doubled m cs) ++ c ∷ []
    go true r = rw r
    go false r = rw r

doubled_mark : (m : ℕ) (cs : List ℕ) → doubled m (cs ++ m ∷ []) ≡ (doubled m cs ++ m ∷ []) ++ m ∷ []
unfolding doubled
doubled_mark m [] = rw (eq-eqb m m refl)
doubled_mark m (x ∷ cs) = go (eqb x m) (doubled_mark m cs)
  where
    go : (t : Bool) → doubled m (cs ++ m ∷ []) ≡ (doubled m cs ++ m ∷ []) ++ m ∷ []
        → cond t (m ∷ m ∷ doubled m (cs ++ m ∷ [])) (x ∷ doubled m (cs ++ m ∷ [])) ≡ (cond t (m ∷ m ∷ doubled m cs) (x ∷ doubled m cs) ++ m ∷ []) ++ m ∷ []
    go true r = rw r
    go false r = rw r

printable_more : (cs : List ℕ) (c : ℕ) → Printable cs → 32 ≤ c → c ≤ 126 → Printable (cs ++ c ∷ [])
printable_more [] c h lo hi = (lo, hi, tt)
printable_more (x ∷ cs) c h lo hi = (h.0, h.1, printable_more cs c h.2 lo hi)

-- ---- the literal up to an offset

-- one more character
pub plain_at : {s : List ℕ} {a m at : ℕ} {cs : List ℕ} → InsideAt s a m cs at → at < length s → eqb (get_or s at 0) m ≡ false → is_printable (get_or s at 0) ≡ true
    → InsideAt s a m (cs ++ get_or s at 0 ∷ []) (at + 1)
plain_at {s} {a} {m} {at} {cs} k h e f =
    let b : ℕ = get_or s at 0 in
    let t = and_parts (leb 32 b) (leb b 126) f in
    record {
      low = omega arith;
      mark = k.mark;
      opens = k.opens;
      between = rw (part_more s (a + 1) at k.low h, k.between, doubled_plain m cs b e);
      printable = printable_more cs b k.printable (leb-true 32 b t.0) (leb-true b 126 t.1);
    }

mark_printable : (m : ℕ) → Mark m → (32 ≤ m) × (m ≤ 126)
mark_printable m h = ⊎_elim (λ e. omega arith) (λ e. omega arith) h

-- a doubled mark
pub doubled_at : {s : List ℕ} {a m b : ℕ} {cs : List ℕ} → InsideAt s a m cs b → At s b m → At s (b + 1) m → InsideAt s a m (cs ++ m ∷ []) (b + 1 + 1)
doubled_at {s} {a} {m} {b} {cs} k first second =
    let p = mark_printable m k.mark in
    record {
      low = omega arith;
      mark = k.mark;
      opens = k.opens;
      between = rw (part_more s (a + 1) (b + 1) (omega arith) second.within, part_more s (a + 1) b k.low first.within, first.is, second.is, k.between, doubled_mark m cs);
      printable = printable_more cs m k.printable p.0 p.1;
    }

some_character : (cs : List ℕ) → is_empty cs ≡ false → 0 < length cs
some_character [] e = absurd (false≢true (sym e))
some_character (c ∷ cs) e = omega arith

-- the closing mark
pub literal_at : {s : List ℕ} {a m c : ℕ} {cs : List ℕ} → InsideAt s a m cs c → At s c m → is_empty cs ≡ false → LiteralAt s a cs c
literal_at {s} {a} {m} {c} {cs} k here e =
    record { m = m; mark = k.mark; opens = k.opens; between = k.between; closes = here; after = omega arith; printable = k.printable; some = some_character cs e }
