-- `bind` meets its contract: the levels that are left give, after the reads under way, what all of them give.
use Rattle.planning.specs.Choosing.{NamesKept}
use Rattle.planning.proofs.Binding.{Rising}
use Rattle.planning.proofs.planning.Planning.bind.Given as goal

abbrev pub invariant-loop-level : goal.invariant-loop-level
invariant-loop-level l = Rising l.self l.room l.structs l.initial.reads l.reads l.level × NamesKept l.self l.initial.reads l.reads
