-- After so many rounds the marks tell which types start a longer chain.
use Rattle.nesting.proofs.Rounds.{Tells}
use Rattle.nesting.proofs.graph.Graph.first_over.Given as goal

abbrev pub invariant-loop : goal.invariant-loop
invariant-loop l = Tells l.self l.marks l.counter
