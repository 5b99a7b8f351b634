-- The search has come along the chain from its head to this link.
use Rattle.std.proofs.Common.{get_or}
use Rattle.alike.specs.Buckets.{alike_at}
use Rattle.alike.proofs.Chaining.{Going}
use Rattle.alike.proofs.Chains.has.Given as goal

abbrev pub invariant-loop-link : goal.invariant-loop-link
invariant-loop-link l = Going (alike_at l.s l.at) l.self.next l.self.places (get_or l.self.heads l.bucket 0) l.link

abbrev pub decreases-loop-link : goal.decreases-loop-link
decreases-loop-link l = l.link
