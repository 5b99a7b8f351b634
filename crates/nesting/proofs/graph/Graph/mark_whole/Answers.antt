use Rattle.nesting.specs.Graph.{mark}
use Rattle.nesting.proofs.Marked.{putting-start, putting-step, putting-end}
use Rattle.nesting.proofs.graph.Graph.mark_whole.Goals as goal

pub loop-k-init : goal.loop-k-init
loop-k-init c = putting-start _ _ c.if-marks-self.false

pub loop-k-preserved : goal.loop-k-preserved
unfolding mark
loop-k-preserved c = putting-step _ _ _ _ c.loop-k.invariant _ _ c.loop-k-test.true c.in-Some.ensures.whole c.from.ensures

pub returns-after-loop-k : goal.returns-after-loop-k
returns-after-loop-k c = putting-end _ _ _ _ c.loop-k.invariant _ c.if-marks-self.false c.in-Some.ensures.whole c.loop-k-test.false
