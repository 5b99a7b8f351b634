-- `settle` meets its contract: round by round the table tells the reads under way, and the rounds left come to the rounds of all.
use Prim.Native.Nat.{◌-◌}
use lib.ListN.{length}
use Rattle.planning.specs.Choosing.{NamesKept}
use Rattle.planning.proofs.Settling.{Settling}
use Rattle.planning.proofs.planning.Planning.settle.Given as goal

abbrev pub invariant-loop : goal.invariant-loop
invariant-loop l = Settling l.self l.initial.alive l.limit l.initial.reads l.alive l.reads (length l.initial.reads - l.counter) × NamesKept l.self l.initial.reads l.reads
