-- One type after the other is walked with the same memo and its mark written.
use Rattle.nesting.proofs.Markings.{MakingFrom}
use Rattle.nesting.proofs.graph.Graph.whole_types.Given as goal

abbrev pub invariant-loop-k : goal.invariant-loop-k
invariant-loop-k l = MakingFrom l.self l.whole l.memo l.k
