-- `fill_asks` meets its contract: the first requests are there, and the next one is that of the name which stands in the list file.
use Rattle.planning.proofs.Asking.{Asking}
use Rattle.planning.proofs.planning.Planning.fill_asks.Given as goal

abbrev pub invariant-loop-j : goal.invariant-loop-j
invariant-loop-j l = Asking l.catalog l.self l.asks l.j
