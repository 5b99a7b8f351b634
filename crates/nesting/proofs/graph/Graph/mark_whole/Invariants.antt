-- One type's mark after the other is put down.
use Rattle.nesting.proofs.Marked.{Putting}
use Rattle.nesting.proofs.graph.Graph.mark_whole.Given as goal

abbrev pub invariant-loop-k : goal.invariant-loop-k
invariant-loop-k l = Putting l.self l.initial.marks l.marks l.k
