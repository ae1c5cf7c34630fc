use Rattle.number.proofs.Making.{made_none, made_more}
use Rattle.number.proofs.put.put.Goals as goal

pub loop-i-init : goal.loop-i-init
loop-i-init g c = made_none c.args.part.now (g.N.Tens.value c.args.m)

pub loop-i-preserved : goal.loop-i-preserved
loop-i-preserved g c =
    made_more c.loop-i.invariant c.loop-i-test.true c.split_last-front.ensures.front c.split_last-front.ensures.last
