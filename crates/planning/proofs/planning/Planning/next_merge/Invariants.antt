-- `next_merge` meets its contract: group by group, what is left gives the best merge of all.
use Rattle.std.specs.Prelude.{IfSome}
use Rattle.planning.specs.Merges.{Modest}
use Rattle.planning.proofs.Looking.{Looking}
use Rattle.planning.proofs.planning.Planning.next_merge.Given as goal

abbrev pub invariant-loop-j : goal.invariant-loop-j
invariant-loop-j l = Looking l.self l.initial.alive l.limit l.reads l.alive l.best l.j × IfSome l.best Modest
