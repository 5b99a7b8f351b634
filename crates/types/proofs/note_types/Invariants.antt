-- Each type is noted once, and later types are blank till then.
use Rattle.types.proofs.Noting.{Noted}
use Rattle.types.proofs.note_types.Given as goal

abbrev pub invariant-loop-k : goal.invariant-loop-k
invariant-loop-k l = Noted l.s l.graph l.k
