-- The sums so far and those of the pairs left make the whole; the laws in Turning turn it.
use Prim.Native.Nat.{◌-◌}
use Rattle.results.specs.Told.{pair_count}
use Rattle.results.proofs.Turning.{Adding}
use Rattle.results.proofs.sort.Sorting.add_up.Given as goal

abbrev pub invariant-loop : goal.invariant-loop
invariant-loop l = Adding l.self.plan.now l.self.results.now l.entries l.bytes l.p l.q (pair_count l.self.plan.now l.self.results.now - l.counter)
