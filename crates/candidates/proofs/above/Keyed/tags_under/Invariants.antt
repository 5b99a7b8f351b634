-- The loop rests on the tags that are left making the whole of what is to be gathered.
use Rattle.candidates.specs.Lent.{tags_in}
use Rattle.candidates.proofs.Putting.{Gathering}
use Rattle.candidates.proofs.Under.{tags_from}
use Rattle.candidates.proofs.above.Keyed.tags_under.Given as goal

abbrev pub invariant-loop-k : goal.invariant-loop-k
invariant-loop-k l = Gathering (tags_in l.self l.j) l.tags (tags_from l.self.above.rows.now l.self.heads.now l.j l.k) l.k
