-- The entries of the members left are still to be put; the laws in Entries turn it.
use Prim.Native.Nat.{◌-◌}
use Rattle.fields.proofs.Putting.{Putting}
use Rattle.results.specs.Told.{laid, turn_entries}
use Rattle.results.proofs.sort.Sorting.put_entries.Given as goal

abbrev pub invariant-loop : goal.invariant-loop
invariant-loop l = Putting (laid (turn_entries l.turn.count l.self.plan.now l.turn.from l.self.results.now l.turn)) l.initial.out l.at l.out l.to (laid (turn_entries (l.turn.count - l.counter) l.self.plan.now l.p l.self.results.now l.turn))
