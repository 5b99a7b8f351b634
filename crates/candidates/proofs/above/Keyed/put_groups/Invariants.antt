-- The loop rests on the groups that are left making the whole of what is to be put.
use Rattle.candidates.specs.Lent.{groups_in}
use Rattle.candidates.proofs.Putting.{Putting}
use Rattle.candidates.proofs.above.Keyed.put_groups.Given as goal

abbrev pub invariant-loop-j : goal.invariant-loop-j
invariant-loop-j l = Putting l.initial.groups (groups_in l.self 0) l.groups (groups_in l.self l.j)
