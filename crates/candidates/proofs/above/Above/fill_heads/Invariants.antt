-- The loop rests on the column having the first row of each row before the place reached, and no more.
use Rattle.candidates.specs.Lent.{keys}
use Rattle.candidates.proofs.Heads.{Noting}
use Rattle.candidates.proofs.above.Above.fill_heads.Given as goal

abbrev pub invariant-loop-j : goal.invariant-loop-j
invariant-loop-j l = Noting (keys l.self) l.heads l.j
