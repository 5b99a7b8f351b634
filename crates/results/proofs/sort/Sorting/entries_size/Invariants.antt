-- The size so far and that of the members left make the whole; the laws in Entries turn it.
use Prim.Native.Nat.{◌+◌, ◌-◌, ◌*◌, ◌≤◌}
use mathlib.Core.Path.{◌≡◌}
use lib.ListN.{length}
use Rattle.results.specs.Told.{laid, turn_entries}
use Rattle.results.proofs.sort.Sorting.entries_size.Given as goal

abbrev pub invariant-loop : goal.invariant-loop
invariant-loop l = (l.n + length (laid (turn_entries (l.turn.count - l.counter) l.self.plan.now l.p l.self.results.now l.turn)) ≡ length (laid (turn_entries l.turn.count l.self.plan.now l.turn.from l.self.results.now l.turn))) × (l.n + 5 * (l.turn.count - l.counter) ≤ 1280)
