use mathlib.Core.Path.{refl, sym, subst}
use native.Mathlib.Omega.{arith}
use lib.ListN.{get_or}
use Rattle.field_read.specs.Steps.{Stopped}
use Rattle.field_read.proofs.Blanks.{first_rest}
use Rattle.field_read.proofs.Running.{running_none, running_blank, running_digit, running_over, running_stop, no_digit, stopped_none}
use Rattle.field_read.proofs.digits.read_run.Goals as goal
use Rattle.field_read.proofs.digits.read_run.Goals.{in_default-b-via-then-b-lt48, in_default-b-via-else-b-lt48+else-b-lt58}

pub loop-rest-init : goal.loop-rest-init
loop-rest-init c = running_none c.requires

pub returns-then-value-gt-LARGEST : goal.returns-then-value-gt-LARGEST
returns-then-value-gt-LARGEST c =
    running_over c.loop-rest.invariant (first_rest _ c.in-len1-up.len_at_least refl) (omega arith) (omega arith) (rw c.from.ensures at c.if-value-gt-LARGEST.true)

pub loop-rest-preserved-in-32 : goal.loop-rest-preserved-in-32
loop-rest-preserved-in-32 c = running_blank c.loop-rest.invariant (first_rest _ c.in-len1-up.len_at_least c.in-32.is)

pub loop-rest-preserved : goal.loop-rest-preserved
loop-rest-preserved c =
    rw c.from.ensures
    (running_digit c.loop-rest.invariant (first_rest _ c.in-len1-up.len_at_least refl) (omega arith) (omega arith) (rw c.from.ensures at c.if-value-gt-LARGEST.false))

pub returns-in_default-b : goal.returns-in_default-b
returns-in_default-b c =
    running_stop c.loop-rest.invariant
    (subst Stopped (sym (first_rest _ c.in-len1-up.len_at_least refl)) ((λ z. omega arith), no_digit (get_or c.loop-rest.rest.now 0 0) (λ a b. elim c.in_default-b.branch [ in_default-b-via-then-b-lt48 w ↦ omega arith | in_default-b-via-else-b-lt48+else-b-lt58 w ↦ omega arith ])))

pub returns : goal.returns
returns c = let h = c in running_stop c.loop-rest.invariant (stopped_none _ c.in_default.len_below)
