use Rattle.nesting.proofs.Rounds.{tells-start, tells-step}
use Rattle.nesting.proofs.graph.Graph.first_over.Goals as goal

pub loop-init : goal.loop-init
loop-init c = tells-start _

pub loop-preserved : goal.loop-preserved
loop-preserved c = tells-step _ _ _ _ c.loop.invariant c.round-marks.ensures
