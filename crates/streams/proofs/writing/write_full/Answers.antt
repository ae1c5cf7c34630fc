use Rattle.std.proofs.Common.{arith, take_all, ◌≡◌, ◌∙◌, ◌+◌, ◌-◌, ℕ, List, ◌++◌, length, ap, sym, subst, rules, take, drop, length-drop}
use Rattle.std.proofs.KnownBytes.{Appends-trans}
use Rattle.std.specs.Io.KnownBytes.{Appends}
use lib.Seq.{take-add}
use Rattle.streams.proofs.writing.write_full.Goals as goal

-- the first bytes, and a beginning of those behind them
front_and_beginning : (at n : ℕ) (xs : List ℕ) → take at xs ++ take n (take (length xs - at) (drop at xs)) ≡ take (at + n) xs
front_and_beginning at n xs =
    ap (λ l. take at xs ++ take n l) (take_all (length xs - at) (drop at xs) (omega (arith, length-drop at xs))) ∙ sym (take-add at n xs)

pub loop-done-preserved : goal.loop-done-preserved
loop-done-preserved g c = record {
  within = search rules;
  given =
      subst (Appends _ _) (front_and_beginning c.loop-done.done c.in_ok-n.n c.args.bytes.now)
      (Appends-trans _ _ _ _ _ c.loop-done.invariant.given c.in_ok-n.ensures.bytes);
}
