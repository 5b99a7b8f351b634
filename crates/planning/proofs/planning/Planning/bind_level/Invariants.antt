-- `bind_level` meets its contract: the structs of the level that are left give, after the reads under way, what all of them give.
use Rattle.planning.specs.Choosing.{NamesKept}
use Rattle.planning.proofs.Binding.{Turning}
use Rattle.planning.proofs.planning.Planning.bind_level.Given as goal

abbrev pub invariant-loop-j : goal.invariant-loop-j
invariant-loop-j l = Turning l.self l.level l.levels l.structs l.initial.reads l.reads l.j × NamesKept l.self l.initial.reads l.reads
