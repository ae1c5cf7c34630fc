use mathlib.Core.Path.{◌≡◌, refl, ◌∙◌}
use Prim.Native.Nat.{◌+◌, ◌-◌, ◌*◌}
use native.Mathlib.Omega.{arith}
use Rattle.sheet_text.proofs.LineLaws.{listed_none, listed_more, listed_all}
use Rattle.sheet_text.proofs.records.put_records.Goals as goal

pub loop-i-init : goal.loop-i-init
loop-i-init c = listed_none c.requires.0 c.requires.1

pub loop-i-preserved : goal.loop-i-preserved
loop-i-preserved c =
    let long : c.loop-i.i * c.args.width + c.args.width - c.loop-i.i * c.args.width ≡ c.args.width = omega arith in
    listed_more c.loop-i.invariant c.loop-i-test.true c.loop-i.auto.dst (omega arith) (c.copy.ensures ∙ rw long)

pub returns : goal.returns
returns c = let w = listed_all c.loop-i.invariant c.loop-i-test.false c.loop-i.auto.i-end in (w.0, w.1, refl)
