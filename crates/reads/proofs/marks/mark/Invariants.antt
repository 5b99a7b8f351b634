use Rattle.reads.proofs.Setting.{Marking}
use Rattle.reads.proofs.marks.mark.Given as goal

abbrev pub invariant-loop-place : goal.invariant-loop-place
invariant-loop-place l = Marking l.serves l.marks l.place-index
