use Rattle.nesting.proofs.Walking.{walk-parts, scan-bad, scan-end}
use Rattle.nesting.proofs.graph.Graph.+whole_type.Goals as goal

pub returns-then-self-k : goal.returns-then-self-k
returns-then-self-k t c = walk-parts _ _ _ _ c.requires c.if-self-k.true

pub returns-then-not-whole_type : goal.returns-then-not-whole_type
returns-then-not-whole_type t c = scan-bad _ _ _ _ _ c.loop-u.invariant _ _ c.loop-u-test.true c.if-self-k-2.true c.whole_type.ensures c.if-not-whole_type.true

pub returns : goal.returns
returns t c = scan-end _ _ _ _ _ c.loop-u.invariant c.loop-u-test.false
