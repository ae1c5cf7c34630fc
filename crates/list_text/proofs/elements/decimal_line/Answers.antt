use mathlib.Core.Path.{◌≡◌, sym, ◌∙◌}
use mathlib.Core.Logic.{◌≢◌}
use Prim.Native.Nat.{◌-◌}
use native.Mathlib.Omega.{arith}
use lib.ListN.{length, get_or}
use Rattle.std.proofs.Common.{rules}
use Rattle.list_elements.proofs.LimitLaws.{from_bits}
use Rattle.list_text.proofs.ElementLaws.{decimal_short, decimal_unblank, decimal_places, decimal_right, decimal_wrong}
use Rattle.list_text.proofs.elements.decimal_line.Goals.{In-32}
use Rattle.list_text.proofs.elements.decimal_line.Goals as goal

blank : (c : In-32) → get_or c.args.s.now (length c.args.s.now - 2) 0 ≡ 32
blank c = omega arith

pub returns-in_err-read_number-in-32 : goal.returns-in_err-read_number-in-32
returns-in_err-read_number-in-32 c = rw c.from_residual.ensures (decimal_wrong c.args.s.now (blank (goal.at.returns-in_err-read_number-in-32 c).In-32) (sym c.is_ascii_digit.ensures.value ∙ c.if-is_ascii_digit.true) (sym c.read_number.ensures ∙ c.in_err-read_number-in-32.was))

pub returns-in_ok-read_number-in-32 : goal.returns-in_ok-read_number-in-32
returns-in_ok-read_number-in-32 c = rw (from_bits c.in_ok-read_number-in-32.field-0 (c.in_ok-read_number-in-32).known_told-1-own.given.0.1, c.from.ensures)
    (decimal_right c.args.s.now (blank (goal.at.returns-in_ok-read_number-in-32 c).In-32) (sym c.is_ascii_digit.ensures.value ∙ c.if-is_ascii_digit.true) (sym c.read_number.ensures ∙ c.in_ok-read_number-in-32.was))

pub returns-in_default : goal.returns-in_default
returns-in_default c = decimal_short c.args.s.now c.in_default.len_below

pub returns-in_default-2 : goal.returns-in_default-2
returns-in_default-2 c = decimal_places c.args.s.now (blank (goal.at.returns-in_default-2 c).In-32) (sym c.is_ascii_digit.ensures.value ∙ c.if-is_ascii_digit.false)

pub returns-in_default-3 : goal.returns-in_default-3
returns-in_default-3 c =
    let other : get_or c.args.s.now (length c.args.s.now - 2) 0 ≢ 32 = search rules in
    decimal_unblank c.args.s.now other
