-- `fill_levels` meets its contract: the first levels are there, and one more after each turn.
use Rattle.planning.proofs.Leveling.{Leveling}
use Rattle.planning.proofs.planning.Planning.fill_levels.Given as goal

abbrev pub invariant-loop-j : goal.invariant-loop-j
invariant-loop-j l = Leveling l.self l.room l.structs l.levels l.j
