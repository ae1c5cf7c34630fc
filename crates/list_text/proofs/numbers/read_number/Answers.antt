use mathlib.Core.Path.{sym, ap, ◌∙◌}
use mathlib.Core.List.{List}
use Prim.Native.Nat.{ℕ}
use native.Mathlib.Omega.{arith}
use lib.ListN.{get_or, drop}
use Rattle.list_text.proofs.ElementLaws.{number_empty, number_minus, number_plain}
use Rattle.list_text.proofs.numbers.read_number.Goals as goal

pub returns-in_err-first : goal.returns-in_err-first
returns-in_err-first c = c.from_residual.ensures ∙ number_empty c.args.s.now (omega (arith, c.in_err-first.ensures.cases))

pub returns-then-first-eq45 : goal.returns-then-first-eq45
returns-then-first-eq45 c =
    let e = c.in_ok-first.ensures.cases.0 in
    c.read_signed.ensures ∙ number_minus c.args.s.now (ap (λ (l : List ℕ). drop 1 l) (sym e)) (ap (λ (l : List ℕ). get_or l 0 0) e ∙ c.if-first-eq45.true)

pub returns-else-first-eq45 : goal.returns-else-first-eq45
returns-else-first-eq45 c =
    let e = c.in_ok-first.ensures.cases.0 in
    c.read_signed-else-first-eq45.ensures ∙ number_plain c.args.s.now (λ q. c.if-first-eq45.false (ap (λ (l : List ℕ). get_or l 0 0) (sym e) ∙ q))
