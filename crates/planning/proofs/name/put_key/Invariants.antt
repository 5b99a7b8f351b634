-- `put_key` meets its contract: the name in lower case byte by byte, and behind it the number, if there is one.
use Rattle.planning.proofs.Keys.{Keying}
use Rattle.planning.proofs.name.put_key.Given as goal

abbrev pub invariant-loop-i : goal.invariant-loop-i
invariant-loop-i l = Keying l.name l.cluster l.initial.out l.out l.i
