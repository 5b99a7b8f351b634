-- What is left of the links tells what all of them do.
use Rattle.nesting.proofs.Rows.{Reaching}
use Rattle.nesting.proofs.graph.Graph.reaches_mark.Given as goal

abbrev pub invariant-loop-u : goal.invariant-loop-u
invariant-loop-u l = Reaching l.self l.marks l.k l.u
