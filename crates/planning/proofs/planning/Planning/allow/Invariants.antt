-- `allow` meets its contract: the first flags are there, and one more after each turn.
use Rattle.planning.proofs.Living.{Allowing}
use Rattle.planning.proofs.planning.Planning.allow.Given as goal

abbrev pub invariant-loop-j : goal.invariant-loop-j
invariant-loop-j l = Allowing l.self l.structs l.alive l.j
