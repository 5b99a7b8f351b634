-- Each type's mark is made from the marks of the types it is linked to.
use Rattle.nesting.proofs.Rounds.{Rounding}
use Rattle.nesting.proofs.graph.Graph.round.Given as goal

abbrev pub invariant-loop-k : goal.invariant-loop-k
invariant-loop-k l = Rounding l.self l.marks l.out l.k
