use Rattle.std.proofs.Common.{ap, ℕ, ◌*◌, ◌<◌}
use Rattle.format_run.proofs.Repeating.{repeating_none, repeating_more, repeating_all}
use Rattle.format_run.proofs.unroll.repeat_words.Goals as goal

pub loop-i-init : goal.loop-i-init
loop-i-init c = repeating_none c.args.run.now c.args.n c.args.r c.requires.some c.requires.room

pub loop-i-preserved : goal.loop-i-preserved
loop-i-preserved c =
    let e : c.loop-i.i < c.args.r * c.args.n = rw c.from.ensures at c.loop-i-test.true in
    repeating_more c.args.run.now c.args.n c.args.r c.requires.some c.requires.room _ c.loop-i.run c.loop-i.i c.loop-i.auto.run c.loop-i.auto.i e c.loop-i.invariant

pub returns-clause-words : goal.returns-clause-words
returns-clause-words c =
    repeating_all c.args.run.now c.args.n c.args.r c.requires.some c.requires.room c.loop-i.run c.loop-i.i (c.from.result * c.args.n)
    (ap (λ (r : ℕ). r * c.args.n) c.from.ensures) c.loop-i-test.false c.loop-i.auto.i-end c.loop-i.invariant
