use Rattle.list_elements.proofs.Fitting.{fitting_none, fitting_more, fitting_over, fitting_all}
use Rattle.list_elements.proofs.texts.texts_fit.Goals as goal

pub loop-element-init : goal.loop-element-init
loop-element-init c = fitting_none

pub returns-then-left-len : goal.returns-then-left-len
returns-then-left-len c = fitting_over c.loop-element.invariant _ c.loop-element-test.true c.text_len-len.ensures c.if-left-len.true

pub loop-element-preserved : goal.loop-element-preserved
loop-element-preserved c = fitting_more c.loop-element.invariant _ c.loop-element-test.true c.text_len-len.ensures c.if-left-len.false

pub returns : goal.returns
returns c = fitting_all c.loop-element.invariant c.loop-element-test.false
