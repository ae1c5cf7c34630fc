use mathlib.Core.Path.{refl, sym, ◌∙◌}
use Prim.Native.Nat.{◌+◌}
use native.Mathlib.Omega.{arith}
use Rattle.std.specs.Prelude.{Ok}
use Rattle.format_grammar.specs.Reading.{Use, Mode}
use Rattle.format_read.specs.Steps.{number_at}
use Rattle.format_read.proofs.SingleSteps.{times_at, passed_on, absent, ends-I, ends-L}
use Rattle.format_read.proofs.BegunSteps.{begun_read, begun_stuck, begun_other, slash_read, X-read, letter_missing, letter_read}
use Rattle.format_read.proofs.singles.read_single.Goals as goal

pub returns-in-70 : goal.returns-in-70
returns-in-70 c =
    let k = number_at c.args.from c.args.m.value in
    begun_read c.requires.number_found c.requires.at_in_bounds.0 (Mode.digits (Use.width_f k) (c.args.m.next + 1) 0) (λ l xs q. rw c.in-70.is) _ _ _ c.look_at_repeat.ensures c.read_f.result
    (c.read_f.ensures k (times_at c.args.from c.args.m.value ∙ sym c.unwrap_or-repeat.ensures))

pub returns-in-65 : goal.returns-in-65
returns-in-65 c =
    let k = number_at c.args.from c.args.m.value in
    begun_read c.requires.number_found c.requires.at_in_bounds.0 (Mode.digits (Use.width_a k) (c.args.m.next + 1) 0) (λ l xs q. rw c.in-65.is) _ _ _ c.look_at_repeat.ensures (Ok c.read_a.result)
    (c.read_a.ensures k (times_at c.args.from c.args.m.value ∙ sym c.unwrap_or-repeat.ensures))

pub returns-in_err-count-in-88 : goal.returns-in_err-count-in-88
returns-in_err-count-in-88 c =
    let a = absent c.args.m.value c.in_err-count-in-88.ensures.value in
    rw (passed_on c.from_residual-in_err-count-in-88.ensures.1, a.1)
    (begun_stuck (rw a.0 at c.requires.number_found) c.requires.at_in_bounds.0 (λ l xs q. rw c.in-88.is))

pub returns-in_ok-count-in-88 : goal.returns-in_ok-count-in-88
returns-in_ok-count-in-88 c =
    let e = c.in_ok-count-in-88.ensures.ok_part in
    X-read (rw e at c.requires.number_found) c.requires.at_in_bounds.0 c.in-88.is _ _ (rw e at c.look_at_repeat.ensures)

pub returns-in-47 : goal.returns-in-47
returns-in-47 c = slash_read c.requires.number_found c.requires.at_in_bounds.0 c.in-47.is _ c.unwrap_or-repeat.ensures _ _ c.look_at_repeat.ensures

pub returns-in_default : goal.returns-in_default
returns-in_default c =
    begun_other c.requires.number_found c.requires.at_in_bounds.0 c.requires.at_in_bounds.1 (λ e. omega arith) (λ e. omega arith) (λ e. omega arith) (λ e. omega arith) (λ e. omega arith) (λ e. omega arith) (λ e. omega arith) (λ e. omega arith)

pub returns-in_err-width-in-73 : goal.returns-in_err-width-in-73
returns-in_err-width-in-73 c =
    let k = number_at c.args.from c.args.m.value in
    rw (passed_on c.from_residual.ensures.1)
    (letter_missing c.requires.number_found c.requires.at_in_bounds.0 refl (ends-I k) (λ l xs q. rw c.in-73.is) c.in_err-width-in-73.ensures c.args.outside.now)

pub returns-in_ok-width-in-73 : goal.returns-in_ok-width-in-73
returns-in_ok-width-in-73 c =
    let k = number_at c.args.from c.args.m.value in
    rw c.single.ensures
    (letter_read c.requires.number_found c.requires.at_in_bounds.0 refl (ends-I k) (λ l xs q. rw c.in-73.is) c.args.outside.now _ _ c.look_at_repeat.ensures c.in_ok-width-in-73.ensures _
    (times_at c.args.from c.args.m.value ∙ sym c.unwrap_or-repeat.ensures))

pub returns-in_err-width-in-76 : goal.returns-in_err-width-in-76
returns-in_err-width-in-76 c =
    let k = number_at c.args.from c.args.m.value in
    rw (passed_on c.from_residual-in_err-width-in-76.ensures.1)
    (letter_missing c.requires.number_found c.requires.at_in_bounds.0 refl (ends-L k) (λ l xs q. rw c.in-76.is) c.in_err-width-in-76.ensures c.args.outside.now)

pub returns-in_ok-width-in-76 : goal.returns-in_ok-width-in-76
returns-in_ok-width-in-76 c =
    let k = number_at c.args.from c.args.m.value in
    rw c.single-in-76.ensures
    (letter_read c.requires.number_found c.requires.at_in_bounds.0 refl (ends-L k) (λ l xs q. rw c.in-76.is) c.args.outside.now _ _ c.look_at_repeat.ensures c.in_ok-width-in-76.ensures _
    (times_at c.args.from c.args.m.value ∙ sym c.unwrap_or-repeat.ensures))

pub returns-in-None : goal.returns-in-None
returns-in-None c =
    begun_read (rw c.in-None.is at c.requires.number_found) c.requires.at_in_bounds.0 Mode.letter (λ l xs q. rw c.in-83.is) _ _ _ (rw c.in-None.is at c.look_at_repeat.ensures) (Ok c.read_setting.result) (c.read_setting.ensures _)

pub returns-in-Some : goal.returns-in-Some
returns-in-Some c = begun_stuck (rw c.in-Some.is at c.requires.number_found) c.requires.at_in_bounds.0 (λ l xs q. rw c.in-83.is)

pub returns-in-84 : goal.returns-in-84
returns-in-84 c = c.read_t.ensures _ c.look_at_repeat.ensures
