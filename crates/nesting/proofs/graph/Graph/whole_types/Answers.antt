use Rattle.nesting.proofs.Rows.{found_none}
use Rattle.nesting.proofs.Markings.{from-start}
use Rattle.nesting.proofs.graph.Graph.whole_types.Goals as goal

pub loop-k-init : goal.loop-k-init
loop-k-init c = from-start _ (found_none _ _ _ _ c.first_over.ensures c.is_some.ensures c.if-is_some.false)
