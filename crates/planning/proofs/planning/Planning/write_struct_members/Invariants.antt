-- `write_struct_members` meets its contract: the members at the positions that are left are still to be written.
use Rattle.planning.proofs.Rowing.{Rowing}
use Rattle.planning.specs.Tables.{text_by}
use Rattle.planning.specs.Put.{under_in, UnderFit}
use Rattle.planning.proofs.planning.Planning.write_struct_members.Given as goal

abbrev pub invariant-loop-position : goal.invariant-loop-position
invariant-loop-position l = Rowing (under_in (text_by l.self.list.now l.self.tags.now) l.end) (λ p. UnderFit (text_by l.self.list.now l.self.tags.now p) l.end) l.serves l.initial.file l.file l.start l.at l.position-index
