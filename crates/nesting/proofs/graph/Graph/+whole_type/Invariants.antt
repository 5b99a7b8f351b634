-- The levels fall at each call and suffice for all below, so that the memo speaks of 16 levels.
use Rattle.nesting.proofs.Walking.{Scanning}
use Rattle.nesting.proofs.graph.Graph.+whole_type.Given as goal

abbrev pub decreases-whole_type : goal.decreases-whole_type
decreases-whole_type l = l.levels

abbrev pub invariant-loop-u : goal.invariant-loop-u
invariant-loop-u l = Scanning l.self l.memo l.k l.levels l.u
