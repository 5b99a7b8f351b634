-- The entries of the pairs left are still to be put; the laws in Turning turn it.
use Prim.Native.Nat.{◌-◌}
use Rattle.fields.proofs.Putting.{Putting}
use Rattle.results.specs.Told.{laid, pair_count, entries_at, all_entries}
use Rattle.results.proofs.sort.Sorting.put_all.Given as goal

abbrev pub invariant-loop : goal.invariant-loop
invariant-loop l = Putting (laid (all_entries l.self.plan.now l.self.results.now)) l.initial.out l.at l.out l.to (laid (entries_at (pair_count l.self.plan.now l.self.results.now - l.counter) l.self.plan.now l.p l.self.results.now l.q))
