-- The positions found so far and those of the reads left are all; the laws in Failing turn it.
use Rattle.results.specs.Told.{pair_count}
use Rattle.results.proofs.Failing.{Failing}
use Rattle.results.proofs.sort.Sorting.failed_reads.Given as goal

abbrev pub invariant-loop-i : goal.invariant-loop-i
invariant-loop-i l = Failing l.self.plan.now l.self.results.now (pair_count l.self.plan.now l.self.results.now) l.failed l.p l.q l.i
