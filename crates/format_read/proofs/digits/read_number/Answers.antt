use mathlib.Core.Path.{◌≡◌, sym, ap, ◌∙◌}
use Prim.Native.Nat.{ℕ, ◌-◌, ◌<◌}
use native.Mathlib.Omega.{arith}
use lib.ListN.{get_or, take, drop, length-take}
use lib.Seq.{get_or-take, get_or-drop}
use Rattle.number.specs.Digits.{is_digit}
use Rattle.format_read.proofs.DigitSteps.{digits_more}
use Rattle.format_read.proofs.digits.read_number.Goals as goal

pub loop-b-preserved : goal.loop-b-preserved
loop-b-preserved c =
    let s = c.args.text.now in
    let f = c.loop-b.invariant in
    let i = c.loop-b.b-index in
    let n = c.min-end.result - c.args.at in
    let below : i < n = omega (arith, length-take n (drop c.args.at s), c.loop-b-test.true) in
    let is : get_or (take n (drop c.args.at s)) i 0 ≡ get_or s c.loop-b.next 0
    = get_or-take n (drop c.args.at s) i 0 below ∙ get_or-drop c.args.at s i 0 ∙ ap (λ (j : ℕ). get_or s j 0) (sym f.next_is) in
    record {
      digits = digits_more f.digits (omega arith) (omega arith) _ (c.from.ensures ∙ ap (λ (z : ℕ). z - 48) is) (ap is_digit (sym is) ∙ sym c.is_ascii_digit.ensures.value ∙ c.if-not-is_ascii_digit.false);
      next_is = omega arith;
    }
